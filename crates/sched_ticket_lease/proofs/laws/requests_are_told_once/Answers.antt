-- No request is told twice, and none of before a window with those of the window.
use Rattle.sched_ticket_lease.proofs.ToldOnce.{requests_are_told_once}
use Rattle.sched_ticket_lease.proofs.laws.requests_are_told_once.Goals as goal

pub returns : goal.returns
returns c = requests_are_told_once
