-- What comes of reading JSON: what is found or the first fault, and whether memory was asked for on the way.
use Rattle.std.specs.Prelude.{◌≡◌, Bool, false, ◌||◌, Option, Some, None, Result, Ok, Err, is_ok, IsTrue}
use Rattle.sched_plan.specs.Schedule.{Schedule, leaf}
use Rattle.sched_plan.specs.Plan.{built_plan}
use Rattle.sched_plan.specs.declared.leaves.Leaf.{Leaf}
use Rattle.sched_plan.specs.declared.plans.PlanFault.{PlanFault}
use Rattle.sched_plan.specs.declared.plans.PlanFault.TheVariants.{NoMemory}
use Rattle.sched_plan_json.specs.declared.faults.ReadFault.{ReadFault}
use Rattle.sched_plan_json.specs.declared.faults.ReadFault.TheVariants.{NotAPlan, Plan}

pub record Reading (A : Type 0) : Type 0 where
  pub answer : Result A ReadFault
  pub asked : Bool

-- an answer is the reading's own; only `NoMemory` may come instead, and only where memory was asked for
abbrev pub Reads : {A : Type 0} → Result A ReadFault → Reading A → Type 0
Reads (Err (Plan NoMemory)) r = IsTrue r.asked
Reads answer r = answer ≡ r.answer

abbrev pub found_value : {A : Type 0} → A → Reading A
found_value x = record { answer = Ok x; asked = false }

-- the value has not the form of a node
abbrev pub not_a_plan : {A : Type 0} → Reading A
not_a_plan = record { answer = Err NotAPlan; asked = false }

-- what is there, or the fault of a value that has not the form of a node
abbrev pub or_not_a_plan : {A : Type 0} → Option A → Result A ReadFault
or_not_a_plan (Some x) = Ok x
or_not_a_plan None = Err NotAPlan

abbrev pub read_on : {A B : Type 0} → Bool → Result A ReadFault → (A → Reading B) → Reading B
read_on asked (Err fault) next = record { answer = Err fault; asked = asked }
read_on asked (Ok x) next = record { answer = (next x).answer; asked = asked || (next x).asked }

-- the first fault is the answer; with what is found, the next reading goes on
abbrev pub then_read : {A B : Type 0} → Reading A → (A → Reading B) → Reading B
then_read r next = read_on r.asked r.answer next

abbrev pub of_builder : Result Schedule PlanFault → Result Schedule ReadFault
of_builder (Ok s) = Ok s
of_builder (Err fault) = Err (Plan fault)

-- a leaf, built with no memory
abbrev pub built_leaf : Leaf → Reading Schedule
built_leaf l = record { answer = of_builder (built_plan (leaf l)); asked = false }

-- a node over other plans, for which its builder asks for memory once nothing else refuses it
abbrev pub built_node : Schedule → Reading Schedule
built_node s = record { answer = of_builder (built_plan s); asked = is_ok (built_plan s) }
