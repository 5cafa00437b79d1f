-- `check_plan` returns the first fault of the JSON value, with the place of the value that has it.
use Rattle.serde_json.specs.View.{view}
use Rattle.sched_plan_check.proofs.Nexts.{plan_fault}
use Rattle.sched_plan_check.proofs.plans.check_plan.Goals as goal

pub returns-in_ok-found-in-Err : goal.returns-in_ok-found-in-Err
returns-in_ok-found-in-Err c =
    plan_fault (view c.args.value.now) c.in_ok-found-in-Err.found c.new.result.items c.new.ensures.items
    c.in_ok-found-in-Err.ensures
