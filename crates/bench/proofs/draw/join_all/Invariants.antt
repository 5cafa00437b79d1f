-- The loop keeps passes of the budget, and ends since each turn joins one.
use Rattle.std.specs.Prelude.{All}
use Rattle.std.proofs.Common.{vec_len}
use Rattle.sched_ticket.specs.Held.{IsOf}
use Rattle.bench.proofs.draw.join_all.Given as goal

abbrev pub invariant-loop-pass : goal.invariant-loop-pass
invariant-loop-pass l = record {
  of : IsOf l.budget l.first;
  passes : All (IsOf l.budget) l.passes.items;
}

abbrev pub decreases-loop-pass : goal.decreases-loop-pass
decreases-loop-pass l = vec_len l.passes
