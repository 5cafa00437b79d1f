-- The runs before this one have no fault.
use Rattle.std.proofs.Common.{drop}
use Rattle.serde_json.specs.View.{items_view}
use Rattle.sched_pool_json.specs.JobsOf.{run_in}
use Rattle.sched_pool_check.proofs.Past.{IsPast}
use Rattle.sched_pool_check.proofs.items.first_run.Given as goal

abbrev pub invariant-loop-index : goal.invariant-loop-index
invariant-loop-index l = IsPast run_in (items_view l.runs) (items_view (drop l.index l.runs)) l.index
