-- `first_job` returns the first job that has a fault, or that none has.
use Rattle.std.proofs.Common.{◌+◌, drop, arith}
use Rattle.serde_json.specs.View.{view, items_view}
use Rattle.sched_pool_json.specs.JobsOf.{job_in}
use Rattle.sched_pool_check.proofs.Past.{next_of, past_item, past_refused}
use Rattle.sched_pool_check.proofs.items.first_job.Goals as goal

pub returns-in-Some : goal.returns-in-Some
returns-in-Some c =
    let n = c.loop-index.index in
    let values = c.args.jobs.now in
    let v = c.index-jobs-index.result in
    past_refused job_in (items_view values) (items_view (drop (n + 1) values)) (view v) n c.in-Some.fault
    (next_of job_in (items_view values) values n v (omega arith) c.index-jobs-index.is c.loop-index.invariant)
    (rw c.in-Some.is at c.in_ok-fault.ensures)

pub loop-index-preserved : goal.loop-index-preserved
loop-index-preserved c =
    let n = c.loop-index.index in
    let values = c.args.jobs.now in
    let v = c.index-jobs-index.result in
    past_item job_in (items_view values) (items_view (drop (n + 1) values)) (view v) n
    (next_of job_in (items_view values) values n v (omega arith) c.index-jobs-index.is c.loop-index.invariant)
    (rw c.in_default.is at c.in_ok-fault.ensures)
