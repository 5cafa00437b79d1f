-- Each call is on a value that nests less.
use Rattle.serde_json.specs.Data.{depth}
use Rattle.serde_json.specs.View.{view}
use Rattle.sched_plan_json.proofs.plans.+read_plan.Given as goal

abbrev pub decreases-read_plan : goal.decreases-read_plan
decreases-read_plan l = depth (view l.value.now)
