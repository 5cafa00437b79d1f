-- What is told of the text of jobs follows from what was checked.
use Rattle.std.proofs.Common.{◌≡◌, ℕ, List, Option, Some, None, Result, Ok, Err, IfOk, IsUtf8, sym, subst}
use Rattle.serde_json.specs.Data.{Data}
use Rattle.serde_json.specs.Read.{read}
use Rattle.serde_json.specs.View.{view}
use Rattle.serde_json.specs.declared.value.Value.{Value}
use Rattle.sched_time.specs.declared.faults.NoMemory.{NoMemory}
use Rattle.sched_plan_json.specs.Texts.{SpellsNothing}
use Rattle.sched_pool_json.specs.JobsOf.{jobs_of}
use Rattle.sched_plan_check.specs.Places.{place_of}
use Rattle.sched_plan_check.specs.declared.places.Fault.{Fault}
use Rattle.sched_pool_check.specs.Checked.{IsJobsFault}
use Rattle.sched_pool_check.specs.JobFaults.{JobsFault}
use Rattle.sched_plan_hint.specs.Faults.{IsTold, IsNoJson}
use Rattle.sched_plan_hint.specs.declared.faults.ToldFault.{ToldFault}
use Rattle.sched_plan_hint.specs.declared.faults.ToldFault.TheVariants.{NotJson, Refused}
use Rattle.sched_cli_check.specs.JobsFaults.{TellsFault, FindsFault}

-- the first fault of jobs is told with the text of its place
pub tells_fault : (d : Data) (found : Fault) (t : ToldFault) → IsJobsFault d found → IsTold found t
    → TellsFault d (Some t)
tells_fault d found (NotJson line column why) is told = absurd told
tells_fault d found (Refused fault place hint) is told =
    let whole : jobs_of d ≡ Err fault = rw told.0 is.fault in
    let first : JobsFault fault d (place_of found.place.items) (view found.value.now) =
    subst (λ f. JobsFault f d (place_of found.place.items) (view found.value.now)) (sym told.0) is.first in
    record {
      place = place_of found.place.items;
      value = view found.value.now;
      whole = whole;
      leads = is.leads;
      first = first;
      told = told.1;
    }

spelt : (bytes : List ℕ) (d : Data) (found : Option ToldFault) → IsUtf8 bytes → read bytes ≡ Some d → TellsFault d found
    → FindsFault bytes found
spelt bytes d None utf8 is told = (d, utf8, is, told)
spelt bytes d (Some (Refused fault place hint)) utf8 is told = (d, utf8, is, told)
spelt bytes d (Some (NotJson line column why)) utf8 is told = absurd told

-- what is told of the value that bytes spell is told of the bytes
pub found_in : (bytes : List ℕ) (v : Value) (result : Result (Option ToldFault) NoMemory) → IsUtf8 bytes
    → read bytes ≡ Some (view v) →
    IfOk result (TellsFault (view v)) → IfOk result (FindsFault bytes)
found_in bytes v (Ok found) utf8 is told = spelt bytes (view v) found utf8 is told
found_in bytes v (Err e) utf8 is told = told

-- of bytes that spell nothing it is told that they are no JSON
pub found_nothing : (bytes : List ℕ) (t : ToldFault) → SpellsNothing bytes → IsNoJson t → FindsFault bytes (Some t)
found_nothing bytes (NotJson line column why) nothing told = nothing
found_nothing bytes (Refused fault place hint) nothing told = absurd told
