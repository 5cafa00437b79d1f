-- The names of nodes, by the numbers and the schedules that they take. A gate and a gathering, which have words among
-- their parameters, have none. bin/nodes makes the tables of names.
use Rattle.std.specs.Prelude.{ℕ, List, [], ◌∷◌, codes, Option, Some, None, option_map, bytes_eq, if◌then◌else◌}
use Rattle.sched_plan.specs.declared.leaves.Leaf.{Leaf}
use Rattle.sched_plan.specs.declared.leaves.Leaf.TheVariants.{Forever, Recurs, Spaced, Fixed, Windowed, Linear}
use Rattle.sched_plan.specs.declared.leaves.Leaf.TheVariants.{Exponential, ExponentialMilli, Fibonacci, Decorrelated}
use Rattle.sched_plan.specs.declared.leaves.Leaf.TheVariants.{Elapsed, Identity, Unfold, Lone}
use Rattle.sched_plan.specs.declared.nodes.One.{One}
use Rattle.sched_plan.specs.declared.nodes.One.TheVariants as single
use Rattle.sched_plan.specs.declared.nodes.Two.{Two}
use Rattle.sched_plan.specs.declared.nodes.Two.TheVariants as pair
use Rattle.sched_plan_node.specs.declared.numbers.Numbers.{Numbers}
use Rattle.sched_plan_node.specs.declared.numbers.Numbers.TheVariants as count

-- what has this name, by a table of names
abbrev pub named : {A : Type 0} → List (List ℕ × A) → List ℕ → Option A
named [] name = None
named (row ∷ rows) name = if bytes_eq name row.0 then Some row.1 else named rows name

-- leaves

abbrev pub leaf_names : List (List ℕ × Leaf)
leaf_names =
    (codes "forever", Forever)
    ∷ (codes "elapsed", Elapsed)
    ∷ (codes "identity", Identity)
    ∷ []

abbrev pub leaves_with_one : List (List ℕ × (ℕ → Leaf))
leaves_with_one =
    (codes "recurs", Recurs)
    ∷ (codes "spaced", Spaced)
    ∷ (codes "fixed", Fixed)
    ∷ (codes "windowed", Windowed)
    ∷ (codes "linear", Linear)
    ∷ (codes "fibonacci", Fibonacci)
    ∷ (codes "lone", Lone)
    ∷ []

abbrev pub leaves_with_two : List (List ℕ × (ℕ → ℕ → Leaf))
leaves_with_two =
    (codes "exponential", Exponential)
    ∷ (codes "exponential_milli", ExponentialMilli)
    ∷ []

abbrev pub leaves_with_three : List (List ℕ × (ℕ → ℕ → ℕ → Leaf))
leaves_with_three = (codes "unfold", Unfold) ∷ []

abbrev pub leaves_with_four : List (List ℕ × (ℕ → ℕ → ℕ → ℕ → Leaf))
leaves_with_four = (codes "decorrelated", Decorrelated) ∷ []

-- the leaf of this name with these numbers
abbrev pub leaf_named : List ℕ → Numbers → Option Leaf
leaf_named name count.Zero = named leaf_names name
leaf_named name (count.One n) = option_map (λ k. k n) (named leaves_with_one name)
leaf_named name (count.Two n m) = option_map (λ k. k n m) (named leaves_with_two name)
leaf_named name (count.Three n m k) = option_map (λ l. l n m k) (named leaves_with_three name)
leaf_named name (count.Four n m k l) = option_map (λ f. f n m k l) (named leaves_with_four name)
leaf_named name count.More = None

-- nodes on one schedule

abbrev pub one_names : List (List ℕ × One)
one_names =
    (codes "add_out", single.AddOut)
    ∷ (codes "first", single.First)
    ∷ (codes "second", single.Second)
    ∷ (codes "nothing", single.Nothing)
    ∷ []

abbrev pub ones_with_one : List (List ℕ × (ℕ → One))
ones_with_one =
    (codes "add", single.Add)
    ∷ (codes "set", single.Set)
    ∷ (codes "cap", single.Cap)
    ∷ (codes "within", single.Within)
    ∷ (codes "ends_by", single.EndsBy)
    ∷ (codes "renew", single.Renew)
    ∷ (codes "renew_idle", single.RenewIdle)
    ∷ []

abbrev pub ones_with_three : List (List ℕ × (ℕ → ℕ → ℕ → One))
ones_with_three = (codes "jitter", single.Jitter) ∷ []

abbrev pub one_named : List ℕ → Numbers → Option One
one_named name count.Zero = named one_names name
one_named name (count.One n) = option_map (λ k. k n) (named ones_with_one name)
one_named name (count.Two n m) = None
one_named name (count.Three n m k) = option_map (λ l. l n m k) (named ones_with_three name)
one_named name (count.Four n m k l) = None
one_named name count.More = None

-- nodes on two schedules, which take no number

abbrev pub two_names : List (List ℕ × Two)
two_names =
    (codes "meet", pair.Meet)
    ∷ (codes "join", pair.Join)
    ∷ (codes "follow", pair.Follow)
    ∷ (codes "feed", pair.Feed)
    ∷ []

abbrev pub two_named : List ℕ → Numbers → Option Two
two_named name count.Zero = named two_names name
two_named name (count.One n) = None
two_named name (count.Two n m) = None
two_named name (count.Three n m k) = None
two_named name (count.Four n m k l) = None
two_named name count.More = None
