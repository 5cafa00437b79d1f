-- All requests of the present window are told.
use Rattle.sched_ticket_lease.proofs.Kept.{requests_are_kept}
use Rattle.sched_ticket_lease.proofs.laws.requests_are_kept.Goals as goal

pub returns : goal.returns
returns c = requests_are_kept
