-- Going on below a value finds the fault that is first there, with its place.
use Rattle.serde_json.specs.View.{view}
use Rattle.sched_plan_check.specs.Places.{place_of}
use Rattle.sched_plan_check.proofs.Nexts.{leads_here, leads_below, if_ok_by}
use Rattle.sched_plan_check.proofs.plans.+go_on.Goals as goal

pub returns-in_default : goal.returns-in_default
returns-in_default t c =
    let all = rw c.in_default.is at c.in_ok-below.ensures.first in
    leads_here (view c.args.value.now) (place_of c.args.place.items) c.args.fault c.requires all

pub returns : goal.returns
returns t c =
    let next = rw c.in-Some.is at c.in_ok-below.ensures.first in
    let d = view c.args.value.now in
    let a = view c.in-Some.below.value.now in
    if_ok_by c.go_on.result _ _
    (λ found on.
    leads_below d a (view found.value.now) c.in-Some.below.item (place_of c.args.place.items)
    (place_of c.step_below.new.place.items) (place_of found.place.items)
    found.fault next.0 c.in_ok-step_below.ensures on)
    c.go_on.ensures
