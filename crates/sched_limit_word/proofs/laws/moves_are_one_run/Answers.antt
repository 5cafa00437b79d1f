-- All moves of all passes are one run of the machine.
use Rattle.sched_limit_word.proofs.Views.{moves_are_one_run, sight_is_true}
use Rattle.sched_limit_word.proofs.laws.moves_are_one_run.Goals as goal

pub returns-clause-run : goal.returns-clause-run
returns-clause-run c = moves_are_one_run

pub returns-clause-sight : goal.returns-clause-sight
returns-clause-sight c = sight_is_true
