-- The code by which a proof tells schedules apart: each kind has a tag, and its parameters stand beside it.
use Rattle.std.specs.Prelude.{◌≡◌, ℕ, Bool, true, false, cond, nat_eq, [], ◌∷◌, get_or, refl}
use Rattle.std.specs.Coded.{Coded}
use Rattle.sched_plan.specs.Schedule.{Schedule, leaf, one, two}
use Rattle.sched_plan.specs.declared.leaves.Leaf.{Leaf}
use Rattle.sched_plan.specs.declared.leaves.Leaf.TheVariants.{Forever, Recurs, Spaced, Fixed, Windowed, Linear}
use Rattle.sched_plan.specs.declared.leaves.Leaf.TheVariants.{Exponential, ExponentialMilli, Fibonacci, Decorrelated}
use Rattle.sched_plan.specs.declared.leaves.Leaf.TheVariants.{Elapsed, Identity, Unfold, Lone}
use Rattle.sched_plan.specs.declared.nodes.Side.{Side}
use Rattle.sched_plan.specs.declared.nodes.Side.TheVariants.{Input, Output}
use Rattle.sched_plan.specs.declared.nodes.Test.{Test}
use Rattle.sched_plan.specs.declared.nodes.Test.TheVariants.{Below, AtLeast, Equal}
use Rattle.sched_plan.specs.declared.nodes.Fold.{Fold}
use Rattle.sched_plan.specs.declared.nodes.Fold.TheVariants.{Sum, Count, Max, List as Listing}
use Rattle.sched_plan.specs.declared.nodes.One.{One}
use Rattle.sched_plan.specs.declared.nodes.One.TheVariants.{Gate, Gather, Add, Set, Cap, AddOut, Jitter, Within, EndsBy}
use Rattle.sched_plan.specs.declared.nodes.One.TheVariants.{Renew, RenewIdle, First, Second, Nothing}
use Rattle.sched_plan.specs.declared.nodes.Two.{Two}
use Rattle.sched_plan.specs.declared.nodes.Two.TheVariants.{Meet, Join, Follow, Feed}
use base.Stored.{Gv, gnil, gnum, gcons}
use mathlib.Core.Path.{sym, ◌∙◌, ap}

-- the tag of a kind and up to four parameters
abbrev tagged : ℕ → ℕ → ℕ → ℕ → ℕ → Gv
tagged tag a b c d = gcons (gnum tag) (gcons (gcons (gnum a) (gnum b)) (gcons (gnum c) (gnum d)))

abbrev leaf_code : Leaf → Gv
leaf_code Forever = tagged 0 0 0 0 0
leaf_code (Recurs count) = tagged 1 count 0 0 0
leaf_code (Spaced delay) = tagged 2 delay 0 0 0
leaf_code (Fixed length) = tagged 3 length 0 0 0
leaf_code (Windowed length) = tagged 4 length 0 0 0
leaf_code (Linear delay) = tagged 5 delay 0 0 0
leaf_code (Exponential base factor) = tagged 6 base factor 0 0
leaf_code (ExponentialMilli base thousandths) = tagged 7 base thousandths 0 0
leaf_code (Fibonacci delay) = tagged 8 delay 0 0 0
leaf_code (Decorrelated lane base thousandths most) = tagged 9 lane base thousandths most
leaf_code Elapsed = tagged 10 0 0 0 0
leaf_code Identity = tagged 11 0 0 0 0
leaf_code (Unfold seed factor more) = tagged 12 seed factor more 0
leaf_code (Lone delay) = tagged 13 delay 0 0 0

-- the leaves in the order of their tags
abbrev leaf_at : ℕ → ℕ → ℕ → ℕ → ℕ → Leaf
leaf_at tag a b c d =
    let leaves =
    Forever ∷ Recurs a ∷ Spaced a ∷ Fixed a ∷ Windowed a ∷ Linear a ∷ Exponential a b ∷ ExponentialMilli a b ∷
    Fibonacci a ∷ Decorrelated a b c d ∷ Elapsed ∷ Identity ∷ Unfold a b c ∷ Lone a ∷ [] in
    get_or leaves tag Forever

abbrev side_code : Side → ℕ
side_code Input = 0
side_code Output = 1

abbrev side_at : ℕ → Side
side_at tag = get_or (Input ∷ Output ∷ []) tag Input

abbrev truth_code : Bool → ℕ
truth_code false = 0
truth_code true = 1

abbrev truth_at : ℕ → Bool
truth_at tag = get_or (false ∷ true ∷ []) tag false

abbrev test_code : Test → ℕ
test_code Below = 0
test_code AtLeast = 1
test_code Equal = 2

abbrev test_at : ℕ → Test
test_at tag = get_or (Below ∷ AtLeast ∷ Equal ∷ []) tag Below

abbrev fold_code : Fold → ℕ
fold_code Sum = 0
fold_code Count = 1
fold_code Max = 2
fold_code Listing = 3

abbrev fold_at : ℕ → Fold
fold_at tag = get_or (Sum ∷ Count ∷ Max ∷ Listing ∷ []) tag Sum

abbrev one_code : One → Gv
one_code (Gate side want test bound) = tagged 0 (side_code side) (truth_code want) (test_code test) bound
one_code (Gather fold) = tagged 1 (fold_code fold) 0 0 0
one_code (Add delay) = tagged 2 delay 0 0 0
one_code (Set delay) = tagged 3 delay 0 0 0
one_code (Cap delay) = tagged 4 delay 0 0 0
one_code AddOut = tagged 5 0 0 0 0
one_code (Jitter lane least most) = tagged 6 lane least most 0
one_code (Within length) = tagged 7 length 0 0 0
one_code (EndsBy length) = tagged 8 length 0 0 0
one_code (Renew length) = tagged 9 length 0 0 0
one_code (RenewIdle length) = tagged 10 length 0 0 0
one_code First = tagged 11 0 0 0 0
one_code Second = tagged 12 0 0 0 0
one_code Nothing = tagged 13 0 0 0 0

-- the nodes over one schedule in the order of their tags
abbrev one_at : ℕ → ℕ → ℕ → ℕ → ℕ → One
one_at tag a b c d =
    let nodes =
    Gate (side_at a) (truth_at b) (test_at c) d ∷ Gather (fold_at a) ∷ Add a ∷ Set a ∷ Cap a ∷ AddOut ∷ Jitter a b c ∷
    Within a ∷ EndsBy a ∷ Renew a ∷ RenewIdle a ∷ First ∷ Second ∷ Nothing ∷ [] in
    get_or nodes tag Nothing

abbrev two_code : Two → Gv
two_code Meet = gnum 0
two_code Join = gnum 1
two_code Follow = gnum 2
two_code Feed = gnum 3

abbrev two_at : ℕ → Two
two_at tag = get_or (Meet ∷ Join ∷ Follow ∷ Feed ∷ []) tag Meet

abbrev leaf_from : Gv → Leaf
leaf_from (gcons (gnum tag) (gcons (gcons (gnum a) (gnum b)) (gcons (gnum c) (gnum d)))) = leaf_at tag a b c d
leaf_from _ = Forever

abbrev one_from : Gv → One
one_from (gcons (gnum tag) (gcons (gcons (gnum a) (gnum b)) (gcons (gnum c) (gnum d)))) = one_at tag a b c d
one_from _ = Nothing

abbrev two_from : Gv → Two
two_from (gnum tag) = two_at tag
two_from _ = Meet

-- a schedule is stored as the tag of its shape, its node and up to two schedules
abbrev schedule_code : Schedule → Gv
schedule_code (leaf l) = gcons (gnum 0) (gcons (leaf_code l) (gcons gnil gnil))
schedule_code (one k a) = gcons (gnum 1) (gcons (one_code k) (gcons (schedule_code a) gnil))
schedule_code (two k a b) = gcons (gnum 2) (gcons (two_code k) (gcons (schedule_code a) (schedule_code b)))

abbrev shape_at : ℕ → Gv → Schedule → Schedule → Schedule
shape_at tag k a b =
    cond (nat_eq tag 0) (leaf (leaf_from k)) (cond (nat_eq tag 1) (one (one_from k) a) (two (two_from k) a b))

abbrev schedule_from : Gv → Schedule
schedule_from (gcons (gnum tag) (gcons k (gcons a b))) = shape_at tag k (schedule_from a) (schedule_from b)
schedule_from _ = leaf Forever

leaf_back : (l : Leaf) → leaf_from (leaf_code l) ≡ l
leaf_back Forever = refl
leaf_back _ = refl

side_back : (s : Side) → side_at (side_code s) ≡ s
side_back Input = refl
side_back Output = refl

truth_back : (t : Bool) → truth_at (truth_code t) ≡ t
truth_back false = refl
truth_back true = refl

test_back : (t : Test) → test_at (test_code t) ≡ t
test_back Below = refl
test_back _ = refl

fold_back : (f : Fold) → fold_at (fold_code f) ≡ f
fold_back Sum = refl
fold_back _ = refl

one_back : (k : One) → one_from (one_code k) ≡ k
one_back (Gate side want test bound) = λ i. Gate (side_back side i) (truth_back want i) (test_back test i) bound
one_back (Gather fold) = λ i. Gather (fold_back fold i)
one_back _ = refl

two_back : (k : Two) → two_from (two_code k) ≡ k
two_back Meet = refl
two_back _ = refl

pub schedule_back : (s : Schedule) → schedule_from (schedule_code s) ≡ s
schedule_back (leaf l) = λ i. leaf (leaf_back l i)
schedule_back (one k a) = λ i. one (one_back k i) (schedule_back a i)
schedule_back (two k a b) = λ i. two (two_back k i) (schedule_back a i) (schedule_back b i)

abbrev pub coded_schedule : Coded Schedule
coded_schedule =
    record { code = schedule_code; inj = λ x y p. sym (schedule_back x) ∙ ap schedule_from p ∙ schedule_back y }
