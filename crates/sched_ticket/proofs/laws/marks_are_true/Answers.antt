-- A pass that is marked sole stands for all, and beside one that is marked shared stands another.
use Rattle.sched_ticket.proofs.Views.{sole_is_alone, shared_has_another}
use Rattle.sched_ticket.proofs.laws.marks_are_true.Goals as goal

pub returns-clause-sole : goal.returns-clause-sole
returns-clause-sole c = sole_is_alone

pub returns-clause-shared : goal.returns-clause-shared
returns-clause-shared c = shared_has_another
