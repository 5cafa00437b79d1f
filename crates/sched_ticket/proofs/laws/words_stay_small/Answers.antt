-- No word wraps, and a counted split is refused only past 65,536 passes.
use Rattle.sched_ticket.proofs.Views.{words_stay_small, splits_are_refused_late}
use Rattle.sched_ticket.proofs.laws.words_stay_small.Goals as goal

pub returns-clause-words : goal.returns-clause-words
returns-clause-words c = words_stay_small

pub returns-clause-splits : goal.returns-clause-splits
returns-clause-splits c = splits_are_refused_late
