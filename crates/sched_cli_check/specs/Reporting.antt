-- What is told of a text.
use Rattle.std.specs.Prelude.{◌≡◌, ℕ, List, ◌++◌, codes, Some, Result, Ok, Err, string_bytes}
use Rattle.serde_json.specs.Data.{Data, array}
use Rattle.sched_cli_plan.specs.Printing.{Spells, SpellsNothing}
use Rattle.sched_cli_plan.specs.Refusal.{refusal_of}
use Rattle.sched_cli_plan.specs.declared.faults.PrintFault.{PrintFault}
use Rattle.sched_cli_plan.specs.declared.faults.PrintFault.TheVariants as print
use Rattle.sched_plan_json.specs.PlanOf.{plan_of}
use Rattle.sched_plan_json.specs.declared.faults.ReadFault.{ReadFault}
use Rattle.sched_pool_json.specs.Job.{Job}
use Rattle.sched_pool_json.specs.JobsOf.{jobs_of}
use Rattle.sched_plan_check.specs.Places.{Into, value_at}
use Rattle.sched_plan_check.specs.PlanFaults.{IsPlan, FirstFault}
use Rattle.sched_pool_check.specs.JobFaults.{JobsFault}
use Rattle.sched_plan_hint.specs.PlaceText.{fault_text}
use Rattle.sched_cli_check.specs.declared.reports.Report.{Report}
use Rattle.sched_cli_check.specs.declared.reports.Report.TheVariants.{Read, Refused, NotJson}

-- the text is the line of the first fault that reading the value as a plan finds: its place, and a hint
pub record TellsPlanFault (d : Data) (fault : ReadFault) (text : List ℕ) : Type 0 where
  pub place : List Into
  pub value : Data
  pub hint : List ℕ
  pub refused : plan_of d ≡ Err fault
  pub leads : value_at place d ≡ Some value
  pub first : FirstFault fault d place value
  pub told : text ≡ fault_text place hint ++ codes "\n"

-- the same of reading it as jobs
pub record TellsJobsFault (d : Data) (fault : ReadFault) (text : List ℕ) : Type 0 where
  pub place : List Into
  pub value : Data
  pub hint : List ℕ
  pub refused : jobs_of d ≡ Err fault
  pub leads : value_at place d ≡ Some value
  pub first : JobsFault fault d place value
  pub told : text ≡ fault_text place hint ++ codes "\n"

-- what is told of a value as a plan, and as jobs
abbrev pub ReportsPlan : Data → Report → Type 0
ReportsPlan d (Read text) = IsPlan d
ReportsPlan d (Refused fault text) = TellsPlanFault d fault (string_bytes text)
ReportsPlan d (NotJson text) = ⊥

abbrev pub ReportsJobs : Data → Report → Type 0
ReportsJobs d (Read text) = (jobs : List Job) × (jobs_of d ≡ Ok jobs)
ReportsJobs d (Refused fault text) = TellsJobsFault d fault (string_bytes text)
ReportsJobs d (NotJson text) = ⊥

-- an array is read as jobs, any other value as a plan
abbrev pub Reports : Data → Report → Type 0
Reports (array items) report = ReportsJobs (array items) report
Reports d report = ReportsPlan d report

-- what is told of bytes
abbrev pub IsReport : List ℕ → Report → Type 0
IsReport bytes (Read text) = Spells bytes (λ v. Reports v (Read text))
IsReport bytes (Refused fault text) = Spells bytes (λ v. Reports v (Refused fault text))
IsReport bytes (NotJson text) = SpellsNothing bytes

abbrev pub text_of : Report → List ℕ
text_of (Read text) = string_bytes text
text_of (Refused fault text) = string_bytes text
text_of (NotJson text) = string_bytes text

-- what checking answers where this was told
abbrev pub answer_of : Report → Result (Unit {0}) PrintFault
answer_of (Read text) = Ok tt
answer_of (Refused fault text) = Err (refusal_of fault)
answer_of (NotJson text) = Err print.NotJson
