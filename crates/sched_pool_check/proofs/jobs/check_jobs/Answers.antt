-- `check_jobs` returns the first fault of the JSON value, with the place of the value that has it.
use Rattle.serde_json.specs.View.{view}
use Rattle.sched_pool_check.proofs.JobNexts.{jobs_fault}
use Rattle.sched_pool_check.proofs.jobs.check_jobs.Goals as goal

pub returns-in_ok-found-in-Err : goal.returns-in_ok-found-in-Err
returns-in_ok-found-in-Err c =
    jobs_fault (view c.args.value.now) c.in_ok-found-in-Err.found c.in_ok-found-in-Err.ensures
