-- The law of looks.
use Rattle.sched_limit_word.proofs.Looks as looks
use Rattle.sched_limit_word.proofs.laws.looks_are_calls.Goals as goal

pub returns : goal.returns
returns c = looks.looks_are_calls
