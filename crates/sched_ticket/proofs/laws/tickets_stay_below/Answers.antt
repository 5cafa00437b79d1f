-- The tickets never pass the limit.
use Rattle.sched_ticket.proofs.Views.{tickets_stay_below, each_ticket_is_below, draws_stay_below, floors_stay_below}
use Rattle.sched_ticket.proofs.Views.{limit_is_raised}
use Rattle.sched_ticket.proofs.laws.tickets_stay_below.Goals as goal

pub returns-clause-all : goal.returns-clause-all
returns-clause-all c = tickets_stay_below

pub returns-clause-each : goal.returns-clause-each
returns-clause-each c = each_ticket_is_below

pub returns-clause-by_parts : goal.returns-clause-by_parts
returns-clause-by_parts c = draws_stay_below

pub returns-clause-floors : goal.returns-clause-floors
returns-clause-floors c = floors_stay_below

pub returns-clause-limit : goal.returns-clause-limit
returns-clause-limit c = limit_is_raised
