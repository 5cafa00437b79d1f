-- The loop keeps a pass of the quota.
use Rattle.sched_ticket_quota.specs.Held.{IsOf}
use Rattle.sched_ticket_tests.proofs.tests.windows.windows_fill.Given as goal

abbrev pub invariant-loop-window : goal.invariant-loop-window
invariant-loop-window g l = IsOf l.quota l.pass
