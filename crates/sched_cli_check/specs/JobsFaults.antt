-- What is told of the first fault of the text of jobs.
use Rattle.std.specs.Prelude.{◌≡◌, ℕ, List, Option, Some, None, Ok, Err, string_bytes}
use Rattle.serde_json.specs.Data.{Data}
use Rattle.sched_plan_json.specs.Texts.{Spells, SpellsNothing}
use Rattle.sched_plan_json.specs.declared.faults.ReadFault.{ReadFault}
use Rattle.sched_pool_json.specs.Job.{Job}
use Rattle.sched_pool_json.specs.JobsOf.{jobs_of}
use Rattle.sched_plan_check.specs.Places.{Into, value_at}
use Rattle.sched_pool_check.specs.JobFaults.{JobsFault}
use Rattle.sched_plan_hint.specs.PlaceText.{place_text}
use Rattle.sched_plan_hint.specs.declared.faults.ToldFault.{ToldFault}
use Rattle.sched_plan_hint.specs.declared.faults.ToldFault.TheVariants.{NotJson, Refused}

-- the fault is that of reading the value as jobs, and this is the text of the place of the first value that has it
pub record IsFaultAt (d : Data) (fault : ReadFault) (text : List ℕ) : Type 0 where
  pub place : List Into
  pub value : Data
  pub whole : jobs_of d ≡ Err fault
  pub leads : value_at place d ≡ Some value
  pub first : JobsFault fault d place value
  pub told : text ≡ place_text place

-- what is told of a value: nothing where it spells jobs, and else its first fault and the place
abbrev pub TellsFault : Data → Option ToldFault → Type 0
TellsFault d None = (jobs : List Job) × (jobs_of d ≡ Ok jobs)
TellsFault d (Some (Refused fault place hint)) = IsFaultAt d fault (string_bytes place)
TellsFault d (Some (NotJson line column why)) = ⊥

-- what is told of bytes: that they are no JSON, or what is told of the value that they spell
abbrev pub FindsFault : List ℕ → Option ToldFault → Type 0
FindsFault bytes (Some (NotJson line column why)) = SpellsNothing bytes
FindsFault bytes found = Spells bytes (λ d. TellsFault d found)
