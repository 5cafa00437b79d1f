-- What checking jobs answers.
use Rattle.std.specs.Prelude.{◌≡◌, Some, Ok, Err}
use Rattle.serde_json.specs.Data.{Data}
use Rattle.serde_json.specs.View.{view}
use Rattle.sched_pool_json.specs.JobsOf.{jobs_of}
use Rattle.sched_plan_check.specs.declared.places.Fault.{Fault}
use Rattle.sched_plan_check.specs.Places.{place_of, value_at}
use Rattle.sched_pool_check.specs.declared.jobs.JobsChecked.{JobsChecked}
use Rattle.sched_pool_check.specs.declared.jobs.JobsChecked.TheVariants as jobs
use Rattle.sched_pool_check.specs.JobFaults.{JobsFault}

-- the fault is that of reading the value as jobs, the place leads to the value that has it, and it is the first
pub record IsJobsFault (d : Data) (found : Fault) : Type 0 where
  pub fault : jobs_of d ≡ Err found.fault
  pub leads : value_at (place_of found.place.items) d ≡ Some (view found.value.now)
  pub first : JobsFault found.fault d (place_of found.place.items) (view found.value.now)

-- what a value is as jobs
abbrev pub JobsAreChecked : Data → JobsChecked → Type 0
JobsAreChecked d (jobs.Jobs found) = jobs_of d ≡ Ok found.items
JobsAreChecked d (jobs.Fault found) = IsJobsFault d found
