-- The loop keeps passes of the quota.
use Rattle.std.specs.Prelude.{All}
use Rattle.sched_ticket_quota.specs.Held.{IsOf}
use Rattle.bench.proofs.quota.split_off.Given as goal

abbrev pub invariant-loop : goal.invariant-loop
invariant-loop l = record {
  of : IsOf l.quota l.first;
  passes : All (IsOf l.quota) l.passes.items;
}
