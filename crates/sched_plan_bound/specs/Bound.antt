-- How often a schedule goes on at most.
use Rattle.std.specs.Prelude.{◌≡◌, ℕ, ◌+◌, ◌<◌, ◌≤◌, min, max, List, length, Option, Some, None}
use Rattle.sched_time.specs.Capped.{capped}
use Rattle.sched_time.specs.declared.numbers.TheConstants.{FAR}
use Rattle.sched_time.specs.declared.starts.Decision.TheVariants.{Done}
use Rattle.sched_plan.specs.Schedule.{Schedule, leaf, one, two}
use Rattle.sched_plan.specs.Answer.{answer}
use Rattle.sched_plan.specs.declared.leaves.Leaf.{Leaf}
use Rattle.sched_plan.specs.declared.leaves.Leaf.TheVariants.{Recurs, Lone}
use Rattle.sched_plan.specs.declared.nodes.One.{One}
use Rattle.sched_plan.specs.declared.nodes.One.TheVariants.{Renew, RenewIdle}
use Rattle.sched_plan.specs.declared.nodes.Two.{Two}
use Rattle.sched_plan.specs.declared.nodes.Two.TheVariants.{Meet, Join, Follow, Feed}
use Rattle.sched_plan.specs.declared.history.Event.{Event}

-- at each event after so many the schedule is done, on every history of at most FAR events
abbrev pub GoesOnAtMost : Schedule → ℕ → Type 0
GoesOnAtMost s most = (h : List Event) → most < length h → length h ≤ FAR → (answer s h).decision ≡ Done

-- the bound that a recurrence of its own gives
abbrev pub leaf_bound : Leaf → Option ℕ
leaf_bound (Recurs count) = Some count
leaf_bound (Lone delay) = Some 1
leaf_bound _ = None

-- a node that begins its plan anew gives none, any other that of its plan
abbrev pub one_bound : One → Option ℕ → Option ℕ
one_bound (Renew length) bound = None
one_bound (RenewIdle length) bound = None
one_bound _ bound = bound

-- the lesser of those that are known
abbrev pub least_known : Option ℕ → Option ℕ → Option ℕ
least_known (Some a) (Some b) = Some (min a b)
least_known (Some a) None = Some a
least_known None b = b

-- what is made of both, where both are known
abbrev pub both_known : (ℕ → ℕ → ℕ) → Option ℕ → Option ℕ → Option ℕ
both_known f (Some a) (Some b) = Some (f a b)
both_known f (Some a) None = None
both_known f None b = None

-- where both have to go on, the lesser; where one is enough, the greater; one after another, the sum of both
abbrev pub two_bound : Two → Option ℕ → Option ℕ → Option ℕ
two_bound Meet a b = least_known a b
two_bound Feed a b = least_known a b
two_bound Join a b = both_known max a b
two_bound Follow a b = both_known (λ n m. capped (n + m)) a b

-- the bound that a schedule's nodes give
abbrev pub bound_of : Schedule → Option ℕ
bound_of (leaf l) = leaf_bound l
bound_of (one k a) = one_bound k (bound_of a)
bound_of (two k a b) = two_bound k (bound_of a) (bound_of b)
