-- What each call of the machine keeps holds of the word.
use Rattle.sched_limit_word.proofs.Views.{what_is_kept_holds, each_move_is_so}
use Rattle.sched_limit_word.proofs.laws.what_is_kept_holds.Goals as goal

pub returns-clause-words : goal.returns-clause-words
returns-clause-words c = what_is_kept_holds

pub returns-clause-moves : goal.returns-clause-moves
returns-clause-moves c = each_move_is_so
