-- A call opens the window of its own moment alone, and draws and counts in no earlier one.
use Rattle.sched_ticket_quota.proofs.Clocks.{opens_its_own, draws_no_earlier, counts_no_earlier}
use Rattle.sched_ticket_quota.proofs.laws.calls_go_by_their_moments.Goals as goal

pub returns-clause-opens : goal.returns-clause-opens
returns-clause-opens c = opens_its_own

pub returns-clause-draws : goal.returns-clause-draws
returns-clause-draws c = draws_no_earlier

pub returns-clause-counts : goal.returns-clause-counts
returns-clause-counts c = counts_no_earlier
