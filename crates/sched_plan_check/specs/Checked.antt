-- What checking a plan answers.
use Rattle.std.specs.Prelude.{◌≡◌, Some, Ok, Err}
use Rattle.serde_json.specs.Data.{Data}
use Rattle.serde_json.specs.View.{view}
use Rattle.sched_plan_json.specs.PlanOf.{plan_of}
use Rattle.sched_plan_check.specs.declared.places.Fault.{Fault}
use Rattle.sched_plan_check.specs.declared.plans.PlanChecked.{PlanChecked}
use Rattle.sched_plan_check.specs.declared.plans.PlanChecked.TheVariants as checked
use Rattle.sched_plan_check.specs.Places.{place_of, value_at}
use Rattle.sched_plan_check.specs.PlanFaults.{FirstFault}

-- the fault is that of reading the value as a plan, the place leads to a value that has it, and it is the first
pub record IsPlanFault (d : Data) (found : Fault) : Type 0 where
  pub fault : plan_of d ≡ Err found.fault
  pub leads : value_at (place_of found.place.items) d ≡ Some (view found.value.now)
  pub refused : plan_of (view found.value.now) ≡ Err found.fault
  pub first : FirstFault found.fault d (place_of found.place.items) (view found.value.now)

-- what a value is as a plan
abbrev pub PlanIsChecked : Data → PlanChecked → Type 0
PlanIsChecked d (checked.Plan s) = plan_of d ≡ Ok s
PlanIsChecked d (checked.Fault found) = IsPlanFault d found
