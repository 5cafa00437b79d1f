-- What holds of the definitions. Each law is the contract of a function of the module `laws`.
use Rattle.std.specs.Prelude.{◌≡◌, ℕ, ◌*◌, ◌≤◌, List}
use Rattle.sched_time.specs.declared.numbers.TheConstants.{FAR}
use Rattle.sched_plan.specs.Schedule.{Schedule, leaf}
use Rattle.sched_plan.specs.History.{last_moment}
use Rattle.sched_plan.specs.Answer.{answer}
use Rattle.sched_plan.specs.Starts.{StartsBy}
use Rattle.sched_plan.specs.declared.leaves.Leaf.TheVariants.{Exponential, ExponentialMilli}
use Rattle.sched_plan.specs.declared.history.Event.{Event}

-- a factor in thousandths that is a whole number answers as that number does, on every history
abbrev pub WholeFactorsAgree : Type 0
WholeFactorsAgree = (base factor : ℕ) → base ≤ FAR → 1 ≤ factor → factor ≤ 1000 → (h : List Event) →
    answer (leaf (ExponentialMilli base (1000 * factor))) h ≡ answer (leaf (Exponential base factor)) h

-- no schedule goes on before the event that it answers
abbrev pub StartsAreNotBefore : Type 0
StartsAreNotBefore =
    (s : Schedule) (h : List Event) → last_moment h ≤ FAR → StartsBy (last_moment h) (answer s h).decision
