-- Each number drawn is in one pass, as a ticket or as one that a refused draw used up.
use Rattle.sched_ticket.proofs.Views.{numbers_stand_once, draws_are_counted, none_is_used_up, each_refusal_is_high}
use Rattle.sched_ticket.proofs.Views.{refusals_are_just}
use Rattle.sched_ticket.proofs.laws.numbers_stand_once.Goals as goal

pub returns-clause-once : goal.returns-clause-once
returns-clause-once c = numbers_stand_once

pub returns-clause-counted : goal.returns-clause-counted
returns-clause-counted c = draws_are_counted

pub returns-clause-by_parts : goal.returns-clause-by_parts
returns-clause-by_parts c = none_is_used_up

pub returns-clause-refusals : goal.returns-clause-refusals
returns-clause-refusals c = each_refusal_is_high

pub returns-clause-just : goal.returns-clause-just
returns-clause-just c = refusals_are_just
