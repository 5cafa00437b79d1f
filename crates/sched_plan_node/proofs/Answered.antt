-- A node's answer, by what its builder answers.
use Rattle.std.proofs.Common.{◌≡◌, ℕ, Bool, true, false, not, if◌then◌else◌, List, Option, Some, None, option_map}
use Rattle.std.proofs.Common.{Result, Ok, Err, refl, sym}
use Rattle.sched_plan.specs.Schedule.{Schedule, leaf, leaf_in_range}
use Rattle.sched_plan.specs.declared.leaves.Leaf.{Leaf}
use Rattle.sched_plan.specs.declared.plans.PlanFault.TheVariants.{OutOfRange, TooDeep, TooMany, NoMemory}
use Rattle.sched_plan_node.specs.Numbers.{numbers_in}
use Rattle.sched_plan_node.specs.Names.{leaf_named}
use Rattle.sched_plan_node.specs.Given.{node_given, of_builder, answer_of, Gives, IsNode}
use Rattle.sched_plan_node.specs.declared.faults.NodeFault.{NodeFault}
use Rattle.sched_plan_node.specs.declared.faults.NodeFault.TheVariants.{NotANode, Plan}

-- a leaf asks for no memory
in_range_or_not : (b : Bool) (s : Schedule)
    → of_builder (if not b then Err OutOfRange else Ok s) ≡ Err (Plan NoMemory) → ⊥
in_range_or_not true s h = cc
in_range_or_not false s h = cc

never : (l : Option Leaf) → answer_of (option_map leaf l) ≡ Err (Plan NoMemory) → ⊥
never None h = cc
never (Some l) h = in_range_or_not (leaf_in_range l) (leaf l) h

pub leaf_answered : (name numbers : List ℕ) (r : Result Schedule NodeFault) →
    r ≡ answer_of (option_map leaf (leaf_named name (numbers_in numbers))) → IsNode name numbers None None r
leaf_answered name numbers (Ok s) is = is
leaf_answered name numbers (Err NotANode) is = is
leaf_answered name numbers (Err (Plan OutOfRange)) is = is
leaf_answered name numbers (Err (Plan TooDeep)) is = is
leaf_answered name numbers (Err (Plan TooMany)) is = is
leaf_answered name numbers (Err (Plan NoMemory)) is = absurd (never (leaf_named name (numbers_in numbers)) (sym is))

-- where there are plans, memory may be refused
pub gives_node : (name numbers : List ℕ) (a : Schedule) (second : Option Schedule) (r : Result Schedule NodeFault) →
    Gives r (answer_of (node_given name numbers (Some a) second)) → IsNode name numbers (Some a) second r
gives_node name numbers a second (Ok s) h = h
gives_node name numbers a second (Err NotANode) h = h
gives_node name numbers a second (Err (Plan OutOfRange)) h = h
gives_node name numbers a second (Err (Plan TooDeep)) h = h
gives_node name numbers a second (Err (Plan TooMany)) h = h
gives_node name numbers a second (Err (Plan NoMemory)) h = refl
