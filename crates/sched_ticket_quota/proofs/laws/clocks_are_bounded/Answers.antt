-- How many tickets the windows from a moment on allow.
use Rattle.sched_ticket_quota.proofs.Clocks.{clocks_are_bounded}
use Rattle.sched_ticket_quota.proofs.laws.clocks_are_bounded.Goals as goal

pub returns : goal.returns
returns c = clocks_are_bounded
