-- The first fault of a plan, and where it is. bin/nodes makes item_in.
use Rattle.std.specs.Prelude.{◌≡◌, ◌⊎◌, ℕ, List, [], ◌∷◌, ◌++◌, Option, Some, None, Ok, Err}
use Rattle.serde_json.specs.Data.{Data, object, member}
use Rattle.sched_plan.specs.Schedule.{Schedule}
use Rattle.sched_plan.specs.declared.nodes.One.{One}
use Rattle.sched_plan.specs.declared.nodes.One.TheVariants.{Gate, Gather, Add, Set, Cap, AddOut, Jitter, Within, EndsBy}
use Rattle.sched_plan.specs.declared.nodes.One.TheVariants.{Renew, RenewIdle, First, Second, Nothing}
use Rattle.sched_plan_json.specs.declared.faults.ReadFault.{ReadFault}
use Rattle.sched_plan_json.specs.Forms.{Spelt, of_leaf, over_one, over_two}
use Rattle.sched_plan_json.specs.PlanOf.{plan_of, spelt_of}
use Rattle.sched_plan_check.specs.Places.{Into, key, index}

-- the value spells a plan
abbrev pub IsPlan : Data → Type 0
IsPlan d = (s : Schedule) × (plan_of d ≡ Ok s)

-- the value spells a plan where no fault is told, and else it is refused for this one
abbrev pub IsRefusal : Data → Option ReadFault → Type 0
IsRefusal d None = IsPlan d
IsRefusal d (Some fault) = plan_of d ≡ Err fault

-- which item of its value a node has as its plan, where that is not the value itself
abbrev pub item_in : One → Option ℕ
item_in (Gate side want test bound) = Some 4
item_in (Gather fold) = Some 1
item_in (Add delay) = Some 1
item_in (Set delay) = Some 1
item_in (Cap delay) = Some 1
item_in AddOut = None
item_in (Jitter lane least most) = Some 3
item_in (Within length) = Some 1
item_in (EndsBy length) = Some 1
item_in (Renew length) = Some 1
item_in (RenewIdle length) = Some 1
item_in First = None
item_in Second = None
item_in Nothing = None

-- the values that spell a node's plans from left to right, each with the item of the node's value that it is
abbrev pub plans_in : Option Spelt → List (Option ℕ × Data)
plans_in None = []
plans_in (Some (of_leaf l)) = []
plans_in (Some (over_one k a)) = (item_in k, a.json) ∷ []
plans_in (Some (over_two k a b)) = (Some 0, a.json) ∷ (Some 1, b.json) ∷ []

-- the name of a node that stands on plans
abbrev pub name_in : Data → List ℕ
name_in (object (member name value _)) = name
name_in _ = []

-- the steps from a node of this name to its plan at this item
abbrev pub steps_to : List ℕ → Option ℕ → List Into
steps_to name None = key name ∷ []
steps_to name (Some i) = key name ∷ index i ∷ []

-- the values spell plans
abbrev pub AreRead : List (Option ℕ × Data) → Type 0
AreRead [] = Unit {0}
AreRead (p ∷ plans) = IsPlan p.1 × AreRead plans

-- of these plans this is the one that comes after plans that are all read
abbrev pub IsNext : List (Option ℕ × Data) → Option ℕ → Data → Type 0
IsNext [] item a = ⊥
IsNext (p ∷ plans) item a = (p ≡ (item, a)) ⊎ (IsPlan p.1 × IsNext plans item a)

-- The first fault of a plan, the place and the value that has it. Either the plan has it itself: its own plans are all
-- read. Or it is that of the first of its plans that is refused.
pub data FirstFault (fault : ReadFault) : Data → List Into → Data → Type 0 where
  own : (d : Data) → plan_of d ≡ Err fault → AreRead (plans_in (spelt_of d)) → FirstFault fault d [] d
  below : (d a v : Data) (item : Option ℕ) (place : List Into) → IsNext (plans_in (spelt_of d)) item a
      → FirstFault fault a place v → FirstFault fault d (steps_to (name_in d) item ++ place) v

-- after these steps further ones lead to the first fault
abbrev pub LeadsOn : ReadFault → Data → List Into → List Into → Data → Type 0
LeadsOn fault d before place v = (rest : List Into) × (place ≡ before ++ rest) × FirstFault fault d rest v
