-- What is told follows from what was checked.
use Rattle.std.proofs.Common.{◌≡◌, ℕ, List, ◌++◌, true, false, Some, Result, Ok, Err, IfOk, IsUtf8, is_some}
use Rattle.std.proofs.Common.{string_bytes, sym, ap, ◌∙◌}
use Rattle.std.specs.Prelude.{codes}
use Rattle.std.proofs.lemmas.Bool.{false≢true}
use Rattle.serde_json.specs.Data.{Data, null, boolean, number, string, array, object}
use Rattle.serde_json.specs.Find.{as_array}
use Rattle.serde_json.specs.Read.{read}
use Rattle.serde_json.specs.View.{view}
use Rattle.serde_json.specs.declared.value.Value.{Value}
use Rattle.sched_time.specs.declared.faults.NoMemory.{NoMemory}
use Rattle.sched_plan_check.specs.declared.places.Fault.{Fault}
use Rattle.sched_plan_check.specs.Places.{place_of}
use Rattle.sched_plan_check.specs.Checked.{IsPlanFault}
use Rattle.sched_pool_check.specs.Checked.{IsJobsFault}
use Rattle.sched_plan_hint.specs.Faults.{IsTold, told_text}
use Rattle.sched_cli_check.specs.Reporting.{TellsPlanFault, TellsJobsFault, ReportsPlan, ReportsJobs, Reports, IsReport}
use Rattle.sched_plan_hint.specs.declared.faults.ToldFault.{ToldFault}
use Rattle.sched_plan_hint.specs.declared.faults.ToldFault.TheVariants as what
use Rattle.sched_cli_check.specs.declared.reports.Report.{Report}
use Rattle.sched_cli_check.specs.declared.reports.Report.TheVariants.{Read, Refused, NotJson}

pub tells_plan : (d : Data) (found : Fault) (t : ToldFault) (text : List ℕ) → IsPlanFault d found → IsTold found t
    → text ≡ told_text t ++ codes "\n" →
    TellsPlanFault d found.fault text
tells_plan d found (what.NotJson line column why) text is at is_line = absurd at
tells_plan d found (what.Refused fault place hint) text is at is_line = record {
  place = place_of found.place.items;
  value = view found.value.now;
  hint = string_bytes hint;
  refused = is.fault;
  leads = is.leads;
  first = is.first;
  told = is_line ∙ ap (λ p. (p ++ codes ": " ++ string_bytes hint) ++ codes "\n") at.1;
}

pub tells_jobs : (d : Data) (found : Fault) (t : ToldFault) (text : List ℕ) → IsJobsFault d found → IsTold found t
    → text ≡ told_text t ++ codes "\n" →
    TellsJobsFault d found.fault text
tells_jobs d found (what.NotJson line column why) text is at is_line = absurd at
tells_jobs d found (what.Refused fault place hint) text is at is_line = record {
  place = place_of found.place.items;
  value = view found.value.now;
  hint = string_bytes hint;
  refused = is.fault;
  leads = is.leads;
  first = is.first;
  told = is_line ∙ ap (λ p. (p ++ codes ": " ++ string_bytes hint) ++ codes "\n") at.1;
}

jobs_too : (d : Data) (r : Report) → is_some (as_array d) ≡ true → ReportsJobs d r → Reports d r
jobs_too (array items) r is told = told
jobs_too null r is told = absurd (false≢true is)
jobs_too (boolean b) r is told = absurd (false≢true is)
jobs_too (number n) r is told = absurd (false≢true is)
jobs_too (string s) r is told = absurd (false≢true is)
jobs_too (object ms) r is told = absurd (false≢true is)

plan_too : (d : Data) (r : Report) → is_some (as_array d) ≡ false → ReportsPlan d r → Reports d r
plan_too (array items) r is told = absurd (false≢true (sym is))
plan_too null r is told = told
plan_too (boolean b) r is told = told
plan_too (number n) r is told = told
plan_too (string s) r is told = told
plan_too (object ms) r is told = told

pub as_jobs : (d : Data) (result : Result Report NoMemory) → is_some (as_array d) ≡ true → IfOk result (ReportsJobs d)
    → IfOk result (Reports d)
as_jobs d (Ok r) is told = jobs_too d r is told
as_jobs d (Err e) is told = told

pub as_plan : (d : Data) (result : Result Report NoMemory) → is_some (as_array d) ≡ false → IfOk result (ReportsPlan d)
    → IfOk result (Reports d)
as_plan d (Ok r) is told = plan_too d r is told
as_plan d (Err e) is told = told

-- no value is told to be no JSON
json_is_told : (d : Data) (text : _) → Reports d (NotJson text) → ⊥
json_is_told (array items) text told = told
json_is_told null text told = told
json_is_told (boolean b) text told = told
json_is_told (number n) text told = told
json_is_told (string s) text told = told
json_is_told (object ms) text told = told

bytes_too : (bytes : List ℕ) (v : Value) (r : Report) → IsUtf8 bytes → read bytes ≡ Some (view v) → Reports (view v) r
    → IsReport bytes r
bytes_too bytes v (Read text) utf8 is told = (view v, utf8, is, told)
bytes_too bytes v (Refused fault text) utf8 is told = (view v, utf8, is, told)
bytes_too bytes v (NotJson text) utf8 is told = absurd (json_is_told (view v) text told)

pub reported : (bytes : List ℕ) (v : Value) (result : Result Report NoMemory) → IsUtf8 bytes
    → read bytes ≡ Some (view v) →
    IfOk result (Reports (view v)) → IfOk result (IsReport bytes)
reported bytes v (Ok r) utf8 is told = bytes_too bytes v r utf8 is told
reported bytes v (Err e) utf8 is told = told
