-- Each number of a window is in at most one range.
use Rattle.sched_ticket_lease.proofs.Ranges.{ranges_stand_once}
use Rattle.sched_ticket_lease.proofs.laws.ranges_stand_once.Goals as goal

pub returns : goal.returns
returns c = ranges_stand_once
