-- The jobs draw on the budget of this call.
use Rattle.bench.proofs.board.granted.Given as goal

-- the budget of this call
abbrev pub ghosts-run_on : goal.ghosts-run_on
ghosts-run_on g a = record { budget = a.budget }
