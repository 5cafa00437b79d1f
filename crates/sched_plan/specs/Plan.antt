-- The schedule that a plan stands for, what is true of every plan, and what builders return.
use Rattle.std.specs.Prelude.{◌≡◌, ℕ, ◌≤◌, nat_lt, if◌then◌else◌, not, IsTrue, Result, Ok, Err}
use Rattle.sched_plan.specs.Schedule.{Schedule, leaf, one, two, nodes_of, depth_of, node_in_range, is_valid}
use Rattle.sched_plan.specs.declared.plans.PlanFault.{PlanFault}
use Rattle.sched_plan.specs.declared.plans.PlanFault.TheVariants.{OutOfRange, TooDeep, TooMany, NoMemory}
use Rattle.sched_plan.specs.declared.plans.PlanShape.{PlanShape}
use Rattle.sched_plan.specs.declared.plans.PlanShape.TheVariants.{Leaf, One, Two}

-- the schedule of this shape
abbrev pub schedule_of : PlanShape → Schedule
schedule_of (Leaf l) = leaf l
schedule_of (One k a) = one k a.value
schedule_of (Two k p) = two k p.value.0 p.value.1

-- what is true of every plan: its counts are those of the schedule, within the limits, and the schedule is valid
pub record IsSound (s : Schedule) (nodes depth : ℕ) : Type 0 where
  pub nodes_counted : nodes ≡ nodes_of s
  pub depth_counted : depth ≡ depth_of s
  pub few : nodes ≤ 256
  pub shallow : depth ≤ 32
  pub valid : IsTrue (is_valid s)

-- the plan of a node over plans that were built, or its first refusal
abbrev pub built_plan : Schedule → Result Schedule PlanFault
built_plan s =
    if not (node_in_range s) then Err OutOfRange else
    if nat_lt 32 (depth_of s) then Err TooDeep else
    if nat_lt 256 (nodes_of s) then Err TooMany else Ok s

-- a builder that takes memory answers so too, and fails with `NoMemory` only where no other refusal comes
abbrev pub Builds : Result Schedule PlanFault → Schedule → Type 0
Builds (Err NoMemory) s = built_plan s ≡ Ok s
Builds r s = r ≡ built_plan s

-- so many nodes at such a depth, or why a plan may not have them
abbrev pub counts_or_fault : ℕ → ℕ → Result (ℕ × ℕ) PlanFault
counts_or_fault nodes depth =
    if nat_lt 32 depth then Err TooDeep else
    if nat_lt 256 nodes then Err TooMany else Ok (nodes, depth)
