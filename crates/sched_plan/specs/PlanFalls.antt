-- Each part of a plan has fewer nodes than the plan.
use Rattle.std.specs.Prelude.{◌≤◌, max}
use Rattle.std.proofs.Common.{arith}
use Rattle.sched_plan.specs.Schedule.{nodes_of}
use Rattle.sched_plan.specs.Plan.{schedule_of}
use Rattle.sched_plan.specs.declared.plans.PlanShape.{PlanShape}
use Rattle.sched_plan.specs.declared.plans.PlanShape.TheVariants.{Leaf, One, Two}
use Rattle.sched_plan.specs.declared.plans.Plan.TheDeep.{deep-PlanShape}

pub deep_le-nodes_of : (s : PlanShape) → max (deep-PlanShape s) 0 ≤ nodes_of (schedule_of s)
deep_le-nodes_of (Leaf l) = omega arith
deep_le-nodes_of (One k a) = omega arith
deep_le-nodes_of (Two k p) = omega arith
