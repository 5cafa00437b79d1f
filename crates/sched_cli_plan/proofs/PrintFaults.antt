-- What is printed where reading refused.
use Rattle.std.proofs.Common.{◌≡◌, ℕ, List, Option, Some, Err, IsUtf8, inl, sym}
use Rattle.std.proofs.KnownBytes.{Keeps-refl}
use Rattle.serde_json.specs.Read.{read}
use Rattle.serde_json.specs.View.{view}
use Rattle.serde_json.specs.declared.value.Value.{Value}
use Rattle.sched_plan.specs.Schedule.{Schedule}
use Rattle.sched_plan.specs.declared.plans.PlanFault.TheVariants as builder
use Rattle.sched_plan_json.specs.Reading.{Reads}
use Rattle.sched_plan_json.specs.PlanOf.{reading_of}
use Rattle.sched_plan_json.specs.declared.faults.ReadFault.{ReadFault}
use Rattle.sched_plan_json.specs.declared.faults.ReadFault.TheVariants as reading
use Rattle.sched_cli_plan.specs.Refusal.{refusal_of}
use Rattle.sched_cli_plan.specs.Printing.{Prints, ReadsPlan, ReadsValue}
use Rattle.sched_cli_plan.specs.Whole.{IsWholeInput}
use Rattle.sched_plan_course.specs.Course.{Course}
use Rattle.sched_cli_plan.specs.declared.faults.PrintFault.{PrintFault}
use Rattle.sched_cli_plan.specs.declared.faults.PrintFault.TheVariants.{ReadFailed, TooLong, NotJson, NotAPlan}
use Rattle.sched_cli_plan.specs.declared.faults.PrintFault.TheVariants.{OutOfRange, TooDeep, TooMany, NoMemory}
use Rattle.sched_cli_plan.specs.declared.faults.PrintFault.TheVariants.{WriteFailed}

-- a fault of reading ends the printing, with nothing written
pub prints_fault : (o : Course) (l m t : Option (List ℕ)) (bytes : List ℕ) (fault : PrintFault) →
    IsWholeInput l m bytes → ReadsPlan bytes (Err fault) → Prints o l m t t (Err fault)
prints_fault o l m t bytes NotJson whole reads = ((bytes, whole, reads), Keeps-refl t)
prints_fault o l m t bytes NotAPlan whole reads = ((bytes, whole, reads), Keeps-refl t)
prints_fault o l m t bytes OutOfRange whole reads = ((bytes, whole, reads), Keeps-refl t)
prints_fault o l m t bytes TooDeep whole reads = ((bytes, whole, reads), Keeps-refl t)
prints_fault o l m t bytes TooMany whole reads = ((bytes, whole, reads), Keeps-refl t)
prints_fault o l m t bytes NoMemory whole reads = inl (Keeps-refl t)
prints_fault o l m t bytes ReadFailed whole reads = absurd reads
prints_fault o l m t bytes TooLong whole reads = absurd reads
prints_fault o l m t bytes WriteFailed whole reads = absurd reads

-- bytes that spell no value spell no plan
pub plan_in_no_value : (bytes : List ℕ) (fault : PrintFault) → ReadsValue bytes (Err fault)
    → ReadsPlan bytes (Err fault)
plan_in_no_value bytes NotJson reads = reads
plan_in_no_value bytes NoMemory reads = reads
plan_in_no_value bytes NotAPlan reads = absurd reads
plan_in_no_value bytes OutOfRange reads = absurd reads
plan_in_no_value bytes TooDeep reads = absurd reads
plan_in_no_value bytes TooMany reads = absurd reads
plan_in_no_value bytes ReadFailed reads = absurd reads
plan_in_no_value bytes TooLong reads = absurd reads
plan_in_no_value bytes WriteFailed reads = absurd reads

-- a value that is refused is no plan, for the fault of reading it
pub plan_refused : (bytes : List ℕ) (v : Value) (fault : ReadFault) → IsUtf8 bytes → read bytes ≡ Some (view v) →
    Reads {A = Schedule} (Err fault) (reading_of (view v)) → ReadsPlan bytes (Err (refusal_of fault))
plan_refused bytes v reading.NotAPlan text is h = (view v, text, is, sym h)
plan_refused bytes v (reading.Plan builder.OutOfRange) text is h = (view v, text, is, sym h)
plan_refused bytes v (reading.Plan builder.TooDeep) text is h = (view v, text, is, sym h)
plan_refused bytes v (reading.Plan builder.TooMany) text is h = (view v, text, is, sym h)
plan_refused bytes v (reading.Plan builder.NoMemory) text is h = tt
