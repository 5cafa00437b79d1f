-- What comes of reading the items of an array one after another.
use Rattle.std.specs.Prelude.{◌≡◌, true, false, List, [], ◌∷◌, Vec, Result, Ok, Err, IsTrue}
use Rattle.std.specs.declared.alloc.Global.{Global}
use Rattle.serde_json.specs.Data.{Data, Items, no_items, item}
use Rattle.sched_plan.specs.declared.plans.PlanFault.TheVariants.{OutOfRange, NoMemory}
use Rattle.sched_plan_json.specs.Reading.{Reading, found_value, then_read}
use Rattle.sched_plan_json.specs.declared.faults.ReadFault.{ReadFault}
use Rattle.sched_plan_json.specs.declared.faults.ReadFault.TheVariants.{Plan}

-- each item in order, or the first fault
abbrev pub each : {A : Type 0} → (Data → Reading A) → Items → Reading (List A)
each reads no_items = found_value []
each reads (item d ds) = then_read (reads d) (λ x. then_read (each reads ds) (λ xs. found_value (x ∷ xs)))

-- a number is outside its range
abbrev pub out_of_range : {A : Type 0} → Reading A
out_of_range = record { answer = Err (Plan OutOfRange); asked = false }

-- memory is asked for before
abbrev pub asking : {A : Type 0} → Reading A → Reading A
asking r = record { answer = r.answer; asked = true }

-- a vector is the reading's list; only `NoMemory` may come instead, and only where memory was asked for
abbrev pub Lists : {A : Type 0} → Result (Vec A Global) ReadFault → Reading (List A) → Type 0
Lists (Ok found) r = r.answer ≡ Ok found.items
Lists (Err (Plan NoMemory)) r = IsTrue r.asked
Lists (Err fault) r = r.answer ≡ Err fault
