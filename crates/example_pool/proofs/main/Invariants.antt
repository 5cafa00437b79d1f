-- The calls draw on the budget of this call.
use Rattle.example_pool.proofs.main.Given as goal

-- the budget of this call
abbrev pub ghosts-run : goal.ghosts-run
ghosts-run g a = record { budget = a.budget }
