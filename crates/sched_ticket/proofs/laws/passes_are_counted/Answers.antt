-- The passes made are those that live passes stand for and those that were refused.
use Rattle.sched_ticket.proofs.Views.{passes_are_counted, each_is_refused_once, passes_were_split, parts_are_kept}
use Rattle.sched_ticket.proofs.Views.{spent_has_nothing}
use Rattle.sched_ticket.proofs.laws.passes_are_counted.Goals as goal

pub returns-clause-counted : goal.returns-clause-counted
returns-clause-counted c = passes_are_counted

pub returns-clause-once : goal.returns-clause-once
returns-clause-once c = each_is_refused_once

pub returns-clause-splits : goal.returns-clause-splits
returns-clause-splits c = passes_were_split

pub returns-clause-parts : goal.returns-clause-parts
returns-clause-parts c = parts_are_kept

pub returns-clause-spent : goal.returns-clause-spent
returns-clause-spent c = spent_has_nothing
