-- What the bytes of a JSON text are read as.
use Rattle.std.specs.Prelude.{◌≡◌, ℕ, List, Some, Result, Ok, Err, IsUtf8}
use Rattle.serde_json.specs.Data.{Data}
use Rattle.serde_json.specs.Read.{read}
use Rattle.sched_plan.specs.Schedule.{Schedule}
use Rattle.sched_plan.specs.declared.plans.PlanFault.TheVariants as refused
use Rattle.sched_plan_json.specs.PlanOf.{plan_of}
use Rattle.sched_plan_json.specs.declared.faults.ReadFault.{ReadFault}
use Rattle.sched_plan_json.specs.declared.faults.ReadFault.TheVariants as reading
use Rattle.sched_plan_json.specs.declared.texts.TextFault.{TextFault}
use Rattle.sched_plan_json.specs.declared.texts.TextFault.TheVariants.{NotJson, NotAPlan, OutOfRange, TooDeep, TooMany}
use Rattle.sched_plan_json.specs.declared.texts.TextFault.TheVariants.{NoMemory}

-- the bytes are a JSON text, of a value of which P is true
abbrev pub Spells : List ℕ → (Data → Type 0) → Type 0
Spells bytes P = (v : Data) × IsUtf8 bytes × (read bytes ≡ Some v) × P v

-- the bytes spell this plan
abbrev pub SpellsPlan : List ℕ → Schedule → Type 0
SpellsPlan bytes s = Spells bytes (λ v. plan_of v ≡ Ok s)

-- the bytes spell a value that is no plan, for this fault
abbrev pub SpellsFault : List ℕ → ReadFault → Type 0
SpellsFault bytes fault = Spells bytes (λ v. plan_of v ≡ Err fault)

-- the bytes are no JSON text
abbrev pub SpellsNothing : List ℕ → Type 0
SpellsNothing bytes = IsUtf8 bytes → (v : Data) → read bytes ≡ Some v → ⊥

-- what bytes are read as
abbrev pub ReadsText : List ℕ → Result Schedule TextFault → Type 0
ReadsText bytes (Ok s) = SpellsPlan bytes s
ReadsText bytes (Err (NotJson line column)) = SpellsNothing bytes
ReadsText bytes (Err NotAPlan) = SpellsFault bytes reading.NotAPlan
ReadsText bytes (Err OutOfRange) = SpellsFault bytes (reading.Plan refused.OutOfRange)
ReadsText bytes (Err TooDeep) = SpellsFault bytes (reading.Plan refused.TooDeep)
ReadsText bytes (Err TooMany) = SpellsFault bytes (reading.Plan refused.TooMany)
ReadsText bytes (Err NoMemory) = Unit {0}
