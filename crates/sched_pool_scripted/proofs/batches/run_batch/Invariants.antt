-- The jobs run on the budget of this call.
use Rattle.sched_pool_scripted.proofs.batches.run_batch.Given as goal

-- the budget of this call
abbrev pub ghosts-run_on : goal.ghosts-run_on
ghosts-run_on g a = record { budget = a.budget.now }
