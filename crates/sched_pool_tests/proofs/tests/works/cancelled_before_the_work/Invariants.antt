-- The test's jobs draw on the budget of this test.
use Rattle.sched_pool_tests.proofs.tests.works.cancelled_before_the_work.Given as goal

-- the budget of this test
abbrev pub ghosts-cancels_one : goal.ghosts-cancels_one
ghosts-cancels_one g a = record { budget = a.budget.now }
