-- Bounds of delays.
use Rattle.std.specs.Prelude.{◌≡◌, ℕ, ◌≤◌, List}
use Rattle.sched_time.specs.declared.numbers.TheConstants.{FAR}
use Rattle.sched_plan.specs.Schedule.{leaf}
use Rattle.sched_plan.specs.Datum.{num}
use Rattle.sched_plan.specs.Answer.{answer, go_after}
use Rattle.sched_plan.specs.declared.leaves.Leaf.TheVariants.{Decorrelated}
use Rattle.sched_plan.specs.declared.history.Event.{Event}

-- the schedule goes on after a delay that is its output, from its base up to its longest
abbrev pub DecorrelatedIsBounded : Type 0
DecorrelatedIsBounded = (lane base thousandths most : ℕ) → base ≤ most → most ≤ FAR → (h : List Event) → (delay : ℕ)
    × (answer (leaf (Decorrelated lane base thousandths most)) h
    ≡ record { output = num delay; decision = go_after delay h })
    × (base ≤ delay) × (delay ≤ most)
