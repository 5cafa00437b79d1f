-- Any run of windows has at most a reserve for each, and the share of the requests.
use Rattle.sched_ticket_quota.proofs.Carried.{shares_are_kept, runs_are_kept}
use Rattle.sched_ticket_quota.proofs.laws.runs_are_kept.Goals as goal

pub returns-clause-runs : goal.returns-clause-runs
returns-clause-runs c = runs_are_kept

pub returns-clause-shares : goal.returns-clause-shares
returns-clause-shares c = shares_are_kept
