-- A window that has ended is before that of the moment, and each ends within a period.
use Rattle.sched_ticket_quota.proofs.Clocks.{windows_end, ends_within_a_period}
use Rattle.sched_ticket_quota.proofs.laws.windows_end.Goals as goal

pub returns-clause-end : goal.returns-clause-end
returns-clause-end c = windows_end

pub returns-clause-soon : goal.returns-clause-soon
returns-clause-soon c = ends_within_a_period
