-- The JSON that is written of a schedule. bin/nodes makes leaf_json, one_json and two_word.
use Rattle.std.specs.Prelude.{ℕ, List, codes}
use Rattle.serde_json.specs.Data.{Data, string, boolean, no_items, item}
use Rattle.sched_plan.specs.Schedule.{Schedule, leaf, one, two}
use Rattle.sched_plan.specs.declared.leaves.Leaf.{Leaf}
use Rattle.sched_plan.specs.declared.leaves.Leaf.TheVariants.{Forever, Recurs, Spaced, Fixed, Windowed, Linear}
use Rattle.sched_plan.specs.declared.leaves.Leaf.TheVariants.{Exponential, ExponentialMilli, Fibonacci, Decorrelated}
use Rattle.sched_plan.specs.declared.leaves.Leaf.TheVariants.{Elapsed, Identity, Unfold, Lone}
use Rattle.sched_plan.specs.declared.nodes.One.{One}
use Rattle.sched_plan.specs.declared.nodes.One.TheVariants.{Gate, Gather, Add, Set, Cap, AddOut, Jitter, Within, EndsBy}
use Rattle.sched_plan.specs.declared.nodes.One.TheVariants.{Renew, RenewIdle, First, Second, Nothing}
use Rattle.sched_plan.specs.declared.nodes.Two.{Two}
use Rattle.sched_plan.specs.declared.nodes.Two.TheVariants.{Meet, Join, Follow, Feed}
use Rattle.sched_plan.specs.declared.nodes.Side.{Side}
use Rattle.sched_plan.specs.declared.nodes.Side.TheVariants.{Input, Output}
use Rattle.sched_plan.specs.declared.nodes.Test.{Test}
use Rattle.sched_plan.specs.declared.nodes.Test.TheVariants.{Below, AtLeast, Equal}
use Rattle.sched_plan.specs.declared.nodes.Fold.{Fold}
use Rattle.sched_plan.specs.declared.nodes.Fold.TheVariants as folds
use Rattle.sched_plan_json_write.specs.Forms.{named, listed, whole, with_number, with_two, with_number_and, with_both}

-- the value that a gate tests
abbrev pub side_word : Side → List ℕ
side_word Input = codes "input"
side_word Output = codes "output"

-- how a gate compares a number with its bound
abbrev pub test_word : Test → List ℕ
test_word Below = codes "below"
test_word AtLeast = codes "at_least"
test_word Equal = codes "equal"

-- what a gathering makes of the outputs
abbrev pub fold_word : Fold → List ℕ
fold_word folds.Sum = codes "sum"
fold_word folds.Count = codes "count"
fold_word folds.Max = codes "max"
fold_word folds.List = codes "list"

-- a recurrence of its own
abbrev pub leaf_json : Leaf → Data
leaf_json Forever = string (codes "forever")
leaf_json (Recurs count) = with_number (codes "recurs") count
leaf_json (Spaced delay) = with_number (codes "spaced") delay
leaf_json (Fixed length) = with_number (codes "fixed") length
leaf_json (Windowed length) = with_number (codes "windowed") length
leaf_json (Linear delay) = with_number (codes "linear") delay
leaf_json (Exponential base factor) = with_two (codes "exponential") base factor
leaf_json (ExponentialMilli base thousandths) = with_two (codes "exponential_milli") base thousandths
leaf_json (Fibonacci delay) = with_number (codes "fibonacci") delay
leaf_json (Decorrelated lane base thousandths most) =
    listed (codes "decorrelated")
    (item (whole lane) (item (whole base) (item (whole thousandths) (item (whole most) no_items))))
leaf_json Elapsed = string (codes "elapsed")
leaf_json Identity = string (codes "identity")
leaf_json (Unfold seed factor more) =
    listed (codes "unfold") (item (whole seed) (item (whole factor) (item (whole more) no_items)))
leaf_json (Lone delay) = with_number (codes "lone") delay

-- a node over a schedule whose JSON is `a`
abbrev pub one_json : One → Data → Data
one_json (Gate side want test bound) a =
    listed (codes "gate")
    (item (string (side_word side)) (item (boolean want) (item (string (test_word test))
    (item (whole bound) (item a no_items)))))
one_json (Gather fold) a = listed (codes "gather") (item (string (fold_word fold)) (item a no_items))
one_json (Add delay) a = with_number_and (codes "add") delay a
one_json (Set delay) a = with_number_and (codes "set") delay a
one_json (Cap delay) a = with_number_and (codes "cap") delay a
one_json AddOut a = named (codes "add_out") a
one_json (Jitter lane least most) a =
    listed (codes "jitter") (item (whole lane) (item (whole least) (item (whole most) (item a no_items))))
one_json (Within length) a = with_number_and (codes "within") length a
one_json (EndsBy length) a = with_number_and (codes "ends_by") length a
one_json (Renew length) a = with_number_and (codes "renew") length a
one_json (RenewIdle length) a = with_number_and (codes "renew_idle") length a
one_json First a = named (codes "first") a
one_json Second a = named (codes "second") a
one_json Nothing a = named (codes "nothing") a

-- the name of a node over two schedules
abbrev pub two_word : Two → List ℕ
two_word Meet = codes "meet"
two_word Join = codes "join"
two_word Follow = codes "follow"
two_word Feed = codes "feed"

-- the JSON of a schedule
abbrev pub json_of : Schedule → Data
json_of (leaf l) = leaf_json l
json_of (one k a) = one_json k (json_of a)
json_of (two k a b) = with_both (two_word k) (json_of a) (json_of b)
