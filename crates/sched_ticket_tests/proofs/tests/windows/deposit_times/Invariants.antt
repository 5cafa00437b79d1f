-- The loop keeps a pass of the quota.
use Rattle.sched_ticket_quota.specs.Held.{IsOf}
use Rattle.sched_ticket_tests.proofs.tests.windows.deposit_times.Given as goal

abbrev pub invariant-loop : goal.invariant-loop
invariant-loop l = IsOf l.quota l.pass
