-- The tickets of all passes are the numbers below the draws made and the limit, each in one pass.
use Rattle.sched_ticket.proofs.Views.{tickets_stand_once, refusals_are_late}
use Rattle.sched_ticket.proofs.laws.tickets_stand_once.Goals as goal

pub returns-clause-once : goal.returns-clause-once
returns-clause-once c = tickets_stand_once

pub returns-clause-refusals : goal.returns-clause-refusals
returns-clause-refusals c = refusals_are_late
