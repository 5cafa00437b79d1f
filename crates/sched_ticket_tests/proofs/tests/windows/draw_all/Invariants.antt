-- The loop keeps a pass of the quota.
use Rattle.sched_ticket_quota.specs.Held.{IsOf}
use Rattle.sched_ticket_tests.proofs.tests.windows.draw_all.Given as goal

abbrev pub invariant-loop : goal.invariant-loop
invariant-loop g l = IsOf l.quota l.pass
