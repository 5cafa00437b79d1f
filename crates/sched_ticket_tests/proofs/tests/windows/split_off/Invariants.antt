-- The passes split so far are of the quota.
use Rattle.std.specs.Prelude.{All}
use Rattle.sched_ticket_quota.specs.Held.{IsOf}
use Rattle.sched_ticket_tests.proofs.tests.windows.split_off.Given as goal

abbrev pub invariant-loop : goal.invariant-loop
invariant-loop g l = record {
  of : IsOf l.quota l.pass;
  passes : All (IsOf l.quota) l.passes.items;
}
