-- The node of a name with numbers on schedules, and what comes of building it.
use Rattle.std.specs.Prelude.{◌≡◌, ℕ, List, Option, Some, None, IsSome, option_map, Result, Ok, Err}
use Rattle.sched_plan.specs.Schedule.{Schedule, leaf, one, two}
use Rattle.sched_plan.specs.Plan.{built_plan}
use Rattle.sched_plan.specs.declared.plans.PlanFault.{PlanFault}
use Rattle.sched_plan.specs.declared.plans.PlanFault.TheVariants.{NoMemory}
use Rattle.sched_plan_node.specs.Numbers.{numbers_in}
use Rattle.sched_plan_node.specs.Names.{leaf_named, one_named, two_named}
use Rattle.sched_plan_node.specs.declared.faults.NodeFault.{NodeFault}
use Rattle.sched_plan_node.specs.declared.faults.NodeFault.TheVariants.{NotANode, Plan}

-- the node of this name with these numbers, on no schedule, on the first or on both, if there is one
abbrev pub node_given : List ℕ → List ℕ → Option Schedule → Option Schedule → Option Schedule
node_given name numbers None None = option_map leaf (leaf_named name (numbers_in numbers))
node_given name numbers (Some a) None = option_map (λ k. one k a) (one_named name (numbers_in numbers))
node_given name numbers (Some a) (Some b) = option_map (λ k. two k a b) (two_named name (numbers_in numbers))
node_given name numbers None (Some b) = None

-- what a node's builder answers
abbrev pub of_builder : Result Schedule PlanFault → Result Schedule NodeFault
of_builder (Ok s) = Ok s
of_builder (Err fault) = Err (Plan fault)

-- what comes of a node, if there is one
abbrev pub answer_of : Option Schedule → Result Schedule NodeFault
answer_of (Some s) = of_builder (built_plan s)
answer_of None = Err NotANode

-- the answer is this one, or memory was refused
abbrev pub Gives : Result Schedule NodeFault → Result Schedule NodeFault → Type 0
Gives (Err (Plan NoMemory)) answer = Unit {0}
Gives r answer = r ≡ answer

-- the answer is that of the node's builder, or that there is no such node; memory is asked for only where there are
-- plans, which are copied
abbrev pub IsNode : List ℕ → List ℕ → Option Schedule → Option Schedule → Result Schedule NodeFault → Type 0
IsNode name numbers first second (Err (Plan NoMemory)) = IsSome first
IsNode name numbers first second r = r ≡ answer_of (node_given name numbers first second)
