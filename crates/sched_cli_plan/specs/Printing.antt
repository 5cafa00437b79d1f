-- What printing a plan does to the bytes left and the bytes taken, whatever bytes come.
use Rattle.std.specs.Prelude.{◌≡◌, ℕ, ◌⊎◌, List, Option, Some, Result, Ok, Err, IsUtf8}
use Rattle.std.specs.Io.KnownBytes.{Appends, Keeps}
use Rattle.serde_json.specs.Read.{read}
use Rattle.serde_json.specs.View.{view}
use Rattle.serde_json.specs.declared.value.Value.{Value}
use Rattle.sched_plan.specs.Schedule.{Schedule}
use Rattle.sched_plan.specs.declared.plans.PlanFault.TheVariants as refused
use Rattle.sched_plan_json.specs.declared.faults.ReadFault.TheVariants as reading
pub use Rattle.sched_plan_json.specs.Texts.{Spells, SpellsPlan, SpellsFault, SpellsNothing}
use Rattle.sched_cli_plan.specs.PlanText.{plan_text}
use Rattle.sched_cli_plan.specs.Whole.{IsWholeInput, StopsReading, WritesFront}
use Rattle.sched_plan_course.specs.Course.{Course}
use Rattle.sched_cli_plan.specs.declared.faults.PrintFault.{PrintFault}
use Rattle.sched_cli_plan.specs.declared.faults.PrintFault.TheVariants.{ReadFailed, TooLong, NotJson, NotAPlan}
use Rattle.sched_cli_plan.specs.declared.faults.PrintFault.TheVariants.{OutOfRange}
use Rattle.sched_cli_plan.specs.declared.faults.PrintFault.TheVariants.{TooDeep, TooMany, NoMemory, WriteFailed}

-- what bytes are read as
abbrev pub ReadsValue : List ℕ → Result Value PrintFault → Type 0
ReadsValue bytes (Ok value) = IsUtf8 bytes × (read bytes ≡ Some (view value))
ReadsValue bytes (Err NotJson) = SpellsNothing bytes
ReadsValue bytes (Err NoMemory) = Unit {0}
ReadsValue bytes (Err _) = ⊥

-- what a plan's bytes are read as
abbrev pub ReadsPlan : List ℕ → Result Schedule PrintFault → Type 0
ReadsPlan bytes (Ok s) = SpellsPlan bytes s
ReadsPlan bytes (Err NotJson) = SpellsNothing bytes
ReadsPlan bytes (Err NotAPlan) = SpellsFault bytes reading.NotAPlan
ReadsPlan bytes (Err OutOfRange) = SpellsFault bytes (reading.Plan refused.OutOfRange)
ReadsPlan bytes (Err TooDeep) = SpellsFault bytes (reading.Plan refused.TooDeep)
ReadsPlan bytes (Err TooMany) = SpellsFault bytes (reading.Plan refused.TooMany)
ReadsPlan bytes (Err NoMemory) = Unit {0}
ReadsPlan bytes (Err ReadFailed) = ⊥
ReadsPlan bytes (Err TooLong) = ⊥
ReadsPlan bytes (Err WriteFailed) = ⊥

-- writing a text ends with all of it, or stops after a front of it where a write failed or memory was refused
abbrev pub WritesText : Option (List ℕ) → Option (List ℕ) → List ℕ → Result (Unit {0}) PrintFault → Type 0
WritesText taken taken' text (Ok _) = Appends taken taken' text
WritesText taken taken' text (Err WriteFailed) = WritesFront taken taken' text
WritesText taken taken' text (Err NoMemory) = WritesFront taken taken' text
WritesText taken taken' text (Err _) = ⊥

-- the whole input was read, of which P is true
abbrev pub IsInput : Option (List ℕ) → Option (List ℕ) → (List ℕ → Type 0) → Type 0
IsInput left left' P = (bytes : List ℕ) × IsWholeInput left left' bytes × P bytes

-- the whole input was read and spells a plan, of which P is true
abbrev pub IsPlanInput : Option (List ℕ) → Option (List ℕ) → (Schedule → Type 0) → Type 0
IsPlanInput left left' P = IsInput left left' (λ bytes. (s : Schedule) × SpellsPlan bytes s × P s)

-- The printing of a plan: at Ok the whole text was written of the plan that was read; at a fault of reading nothing was
-- written, and the input is at fault as the answer says; at a failed write a front of that text was written; and so too
-- where memory was refused, unless nothing was written.
abbrev pub Prints :
    Course → Option (List ℕ) → Option (List ℕ) → Option (List ℕ) → Option (List ℕ) →
    Result (Unit {0}) PrintFault → Type 0
Prints o left left' taken taken' (Ok _) = IsPlanInput left left' (λ s. Appends taken taken' (plan_text s o))
Prints o left left' taken taken' (Err ReadFailed) = StopsReading ReadFailed left left' × Keeps taken taken'
Prints o left left' taken taken' (Err TooLong) = StopsReading TooLong left left' × Keeps taken taken'
Prints o left left' taken taken' (Err NotJson) = IsInput left left' SpellsNothing × Keeps taken taken'
Prints o left left' taken taken' (Err NotAPlan) =
    IsInput left left' (λ bytes. SpellsFault bytes reading.NotAPlan) × Keeps taken taken'
Prints o left left' taken taken' (Err OutOfRange) =
    IsInput left left' (λ bytes. SpellsFault bytes (reading.Plan refused.OutOfRange)) × Keeps taken taken'
Prints o left left' taken taken' (Err TooDeep) =
    IsInput left left' (λ bytes. SpellsFault bytes (reading.Plan refused.TooDeep)) × Keeps taken taken'
Prints o left left' taken taken' (Err TooMany) =
    IsInput left left' (λ bytes. SpellsFault bytes (reading.Plan refused.TooMany)) × Keeps taken taken'
Prints o left left' taken taken' (Err NoMemory) =
    Keeps taken taken' ⊎ IsPlanInput left left' (λ s. WritesFront taken taken' (plan_text s o))
Prints o left left' taken taken' (Err WriteFailed) =
    IsPlanInput left left' (λ s. WritesFront taken taken' (plan_text s o))
