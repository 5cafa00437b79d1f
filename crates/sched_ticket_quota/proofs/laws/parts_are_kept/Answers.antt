-- The passes' parts are 2^62 in all, and what stands for no part has nothing.
use Rattle.sched_ticket_quota.proofs.Views.{parts_are_kept, spent_has_nothing}
use Rattle.sched_ticket_quota.proofs.laws.parts_are_kept.Goals as goal

pub returns-clause-parts : goal.returns-clause-parts
returns-clause-parts c = parts_are_kept

pub returns-clause-spent : goal.returns-clause-spent
returns-clause-spent c = spent_has_nothing
