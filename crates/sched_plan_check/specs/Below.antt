-- What is found below a node.
use Rattle.std.specs.Prelude.{◌≡◌, ℕ, List, Option, Some, None, Err}
use Rattle.serde_json.specs.Data.{Data}
use Rattle.serde_json.specs.View.{view}
use Rattle.sched_plan_json.specs.PlanOf.{plan_of}
use Rattle.sched_plan_check.specs.declared.below.Below.{Below}
use Rattle.sched_plan_check.specs.PlanFaults.{AreRead, IsNext}

-- of these plans this is the first that is refused, or all are read
abbrev pub IsFirstBelow : List (Option ℕ × Data) → Option Below → Type 0
IsFirstBelow plans None = AreRead plans
IsFirstBelow plans (Some b) = IsNext plans b.item (view b.value.now) × (plan_of (view b.value.now) ≡ Err b.fault)
