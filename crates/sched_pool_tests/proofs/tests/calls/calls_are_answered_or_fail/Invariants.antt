-- The test's calls draw on the budget of this board.
use Rattle.sched_pool_tests.proofs.tests.calls.calls_are_answered_or_fail.Given as goal

-- the budget of this board
abbrev pub ghosts-calls_two : goal.ghosts-calls_two
ghosts-calls_two g a = record { budget = a.budget.now }
