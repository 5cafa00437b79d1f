-- The test's jobs draw on the budget of this test.
use Rattle.sched_pool_tests.proofs.tests.watchers.a_watched_job_is_cancelled.Given as goal

-- the budget of this test
abbrev pub ghosts-watches : goal.ghosts-watches
ghosts-watches g a = record { budget = a.budget.now }
