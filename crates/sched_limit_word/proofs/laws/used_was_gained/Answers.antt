-- What a move gives back was gained before it.
use Rattle.sched_limit_word.proofs.Views.{used_was_gained}
use Rattle.sched_limit_word.proofs.laws.used_was_gained.Goals as goal

pub returns : goal.returns
returns c = used_was_gained
