-- No ticket is given twice, and no request is counted twice.
use Rattle.sched_ticket_quota.proofs.Views.{tickets_stand_once, requests_stand_once}
use Rattle.sched_ticket_quota.proofs.laws.numbers_stand_once.Goals as goal

pub returns-clause-tickets : goal.returns-clause-tickets
returns-clause-tickets c = tickets_stand_once

pub returns-clause-requests : goal.returns-clause-requests
returns-clause-requests c = requests_stand_once
