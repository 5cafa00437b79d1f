-- The calls of all requests are one run of the machine.
use Rattle.sched_limit_kept.proofs.Runs as runs
use Rattle.sched_limit_kept.proofs.laws.kept_is_one_run.Goals as goal

pub returns : goal.returns
returns c = runs.kept_is_one_run
