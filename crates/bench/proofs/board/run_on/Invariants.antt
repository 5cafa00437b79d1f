-- The loop keeps a pass of the budget.
use Rattle.sched_ticket.specs.Held.{IsOf}
use Rattle.bench.proofs.board.run_on.Given as goal

abbrev pub invariant-loop : goal.invariant-loop
invariant-loop g l = IsOf l.fn.budget l.pass
