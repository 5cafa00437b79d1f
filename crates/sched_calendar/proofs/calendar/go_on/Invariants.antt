-- The keys that are ready were of the moments ahead.
use Rattle.std.proofs.Common.{◌≡◌, ℕ, ◌+◌, ◌-◌}
use Rattle.sched_calendar.specs.Keys.{times_in, AreReached}
use Rattle.sched_calendar.specs.Ahead.{times_ahead}
use Rattle.sched_calendar.proofs.calendar.go_on.Given as goal

abbrev pub invariant-loop-ahead : goal.invariant-loop-ahead
invariant-loop-ahead l = AreReached l.ahead.reached l.ready.items
    × ((k : ℕ) → times_in k l.ready.items + times_ahead l.ahead k ≡ times_ahead l.initial.ahead k)

abbrev pub decreases-loop-ahead : goal.decreases-loop-ahead
decreases-loop-ahead l = l.to - l.ahead.reached
