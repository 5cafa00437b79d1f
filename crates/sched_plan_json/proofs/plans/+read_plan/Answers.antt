-- Reading a plan returns the plan that the JSON value spells, or its first fault.
use Rattle.std.proofs.lemmas.Result.{err_from_is_err_and}
use Rattle.serde_json.specs.View.{view}
use Rattle.sched_plan_json.specs.Node.{one_of}
use Rattle.sched_plan_json.proofs.Readings.{one_fault, two_first_fault, two_second_fault}
use Rattle.sched_plan_json.proofs.plans.+read_plan.Goals as goal

pub returns-in_err-read_plan-in-One : goal.returns-in_err-read_plan-in-One
returns-in_err-read_plan-in-One t c =
    let p =
    err_from_is_err_and c.from_residual-in_err-read_plan-in-One.result
    c.from_residual-in_err-read_plan-in-One.ensures.1 in
    let spelt = rw c.in-One.is at c.in_ok-leaf.ensures.node in
    rw (p.1, p.2)
    (one_fault (view c.args.value.now) (view c.in-One.plan.now)
    (one_of c.in-One.node) c.in_err-read_plan-in-One.field-0.0 spelt
    c.in_err-read_plan-in-One.ensures)

pub returns-in_err-first-in-Two : goal.returns-in_err-first-in-Two
returns-in_err-first-in-Two t c =
    let p =
    err_from_is_err_and c.from_residual-in_err-first-in-Two.result c.from_residual-in_err-first-in-Two.ensures.1 in
    let spelt = rw c.in-Two.is at c.in_ok-leaf.ensures.node in
    rw (p.1, p.2)
    (two_first_fault (view c.args.value.now) (view c.in-Two.first.now) (view c.in-Two.second.now) c.in-Two.node spelt
    c.in_err-first-in-Two.field-0.0 c.in_err-first-in-Two.ensures)

pub returns-in_err-second-in-Two : goal.returns-in_err-second-in-Two
returns-in_err-second-in-Two t c =
    let p =
    err_from_is_err_and c.from_residual-in_err-second-in-Two.result c.from_residual-in_err-second-in-Two.ensures.1 in
    let spelt = rw c.in-Two.is at c.in_ok-leaf.ensures.node in
    rw (p.1, p.2)
    (two_second_fault (view c.args.value.now) (view c.in-Two.first.now) (view c.in-Two.second.now) c.in-Two.node spelt _
    c.in_err-second-in-Two.field-0.0 c.in_ok-first-in-Two.ensures c.in_err-second-in-Two.ensures)
