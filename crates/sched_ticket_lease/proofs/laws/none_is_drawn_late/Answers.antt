-- No ticket is drawn at or after the moment that ends its window.
use Rattle.sched_ticket_lease.proofs.InTime.{none_is_drawn_late}
use Rattle.sched_ticket_lease.proofs.laws.none_is_drawn_late.Goals as goal

pub returns : goal.returns
returns c = none_is_drawn_late
