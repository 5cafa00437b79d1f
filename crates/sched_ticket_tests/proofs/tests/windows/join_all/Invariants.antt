-- The loop keeps passes of the quota, and ends since each turn joins one.
use Rattle.std.specs.Prelude.{All}
use Rattle.std.proofs.Common.{vec_len}
use Rattle.sched_ticket_quota.specs.Held.{IsOf}
use Rattle.sched_ticket_tests.proofs.tests.windows.join_all.Given as goal

abbrev pub invariant-loop-next : goal.invariant-loop-next
invariant-loop-next g l = record {
  of : IsOf l.quota l.pass;
  done : All (λ t. IsOf l.quota t.0) l.done.items;
}

abbrev pub decreases-loop-next : goal.decreases-loop-next
decreases-loop-next g l = vec_len l.done
