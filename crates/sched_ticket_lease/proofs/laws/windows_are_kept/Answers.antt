-- The ranges of a window have together at most as many tickets as it may give.
use Rattle.sched_ticket_lease.proofs.Ranges.{windows_are_kept}
use Rattle.sched_ticket_lease.proofs.laws.windows_are_kept.Goals as goal

pub returns : goal.returns
returns c = windows_are_kept
