-- The loop keeps passes of the budget.
use Rattle.std.specs.Prelude.{All}
use Rattle.sched_ticket.specs.Held.{IsOf}
use Rattle.bench.proofs.draw.split_off.Given as goal

abbrev pub invariant-loop : goal.invariant-loop
invariant-loop l = record {
  of : IsOf l.budget l.first;
  passes : All (IsOf l.budget) l.passes.items;
}
