-- The parts of all passes are those that the limit began with.
use Rattle.sched_limit_word.proofs.Views.{parts_are_kept, spent_has_nothing, whole_has_all}
use Rattle.sched_limit_word.proofs.laws.parts_are_kept.Goals as goal

pub returns-clause-kept : goal.returns-clause-kept
returns-clause-kept c = parts_are_kept

pub returns-clause-spent : goal.returns-clause-spent
returns-clause-spent c = spent_has_nothing

pub returns-clause-whole : goal.returns-clause-whole
returns-clause-whole c = whole_has_all
