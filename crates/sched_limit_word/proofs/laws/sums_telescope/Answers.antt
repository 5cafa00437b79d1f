-- What a word counts grows by what comes in and falls by what goes out, over all moves.
use Rattle.sched_limit_word.proofs.Views.{sums_telescope}
use Rattle.sched_limit_word.proofs.laws.sums_telescope.Goals as goal

pub returns : goal.returns
returns c = sums_telescope
