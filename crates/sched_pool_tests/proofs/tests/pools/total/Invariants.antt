-- The test's jobs draw on the budget of this pool.
use Rattle.sched_pool_tests.proofs.tests.pools.total.Given as goal

-- the budget of this pool
abbrev pub ghosts-runs_all : goal.ghosts-runs_all
ghosts-runs_all g a = record { budget = a.budget.now }
