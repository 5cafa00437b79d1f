-- The loop keeps a pass of the budget.
use Rattle.sched_pool.specs.Held.{IsOf}
use Rattle.example_pool.proofs.run.Given as goal

abbrev pub invariant-loop : goal.invariant-loop
invariant-loop g l = IsOf l.fn.budget l.pass
