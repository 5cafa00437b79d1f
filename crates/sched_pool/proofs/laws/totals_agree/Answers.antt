-- The retries that the jobs were granted are the tickets that the budget gave.
use Rattle.sched_pool.proofs.Sums.{agrees}
use Rattle.sched_pool.proofs.laws.totals_agree.Goals as goal

pub returns : goal.returns
returns c = agrees
