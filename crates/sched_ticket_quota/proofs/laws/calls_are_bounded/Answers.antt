-- All calls from a moment on draw at most the tickets that the law counts.
use Rattle.sched_ticket_quota.proofs.Histories.{calls_are_bounded}
use Rattle.sched_ticket_quota.proofs.laws.calls_are_bounded.Goals as goal

pub returns : goal.returns
returns c = calls_are_bounded
