-- The jobs before this one have no fault.
use Rattle.std.proofs.Common.{drop}
use Rattle.serde_json.specs.View.{items_view}
use Rattle.sched_pool_json.specs.JobsOf.{job_in}
use Rattle.sched_pool_check.proofs.Past.{IsPast}
use Rattle.sched_pool_check.proofs.items.first_job.Given as goal

abbrev pub invariant-loop-index : goal.invariant-loop-index
invariant-loop-index l = IsPast job_in (items_view l.jobs) (items_view (drop l.index l.jobs)) l.index
