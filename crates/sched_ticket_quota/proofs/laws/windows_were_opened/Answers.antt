-- The latest window is the first, one that a pass opened, or one that follows full ones.
use Rattle.sched_ticket_quota.proofs.Views.{windows_were_opened}
use Rattle.sched_ticket_quota.proofs.laws.windows_were_opened.Goals as goal

pub returns : goal.returns
returns c = windows_were_opened
