-- The first fault of jobs, and where it is.
use Rattle.std.specs.Prelude.{◌≡◌, ◌⊎◌, ℕ, zero, suc, Bool, true, false, ◌||◌, ◌==◌, nat_lt, codes, List, [], ◌∷◌, ◌++◌}
use Rattle.std.specs.Prelude.{Some, None, Ok, Err}
use Rattle.serde_json.specs.Data.{Data, array, Items, no_items, item}
use Rattle.serde_json.specs.Find.{as_array}
use Rattle.sched_plan_json.specs.declared.faults.ReadFault.{ReadFault}
use Rattle.sched_plan_json.specs.Reading.{Reading}
use Rattle.sched_pool_json.specs.Each.{each}
use Rattle.sched_pool_json.specs.JobsOf.{count, run_in, job_in, jobs_of, plan_and_runs_in}
use Rattle.sched_plan_check.specs.Places.{Into, key, index}
use Rattle.sched_plan_check.specs.PlanFaults.{FirstFault}

-- something is read
abbrev pub IsRead : {A : Type 0} → Reading A → Type 0
IsRead {A} r = (x : A) × (r.answer ≡ Ok x)

-- the item of this number is the first that is not read, and this is its fault
abbrev pub FirstItem : {A : Type 0} → (Data → Reading A) → ReadFault → Items → ℕ → Data → Type 0
FirstItem reads fault no_items i d = ⊥
FirstItem reads fault (item e items) zero d = (e ≡ d) × ((reads e).answer ≡ Err fault)
FirstItem reads fault (item e items) (suc i) d = IsRead (reads e) × FirstItem reads fault items i d

-- a job has no run, or more than 64
abbrev pub is_wrong_number : Items → Bool
is_wrong_number runs = (count runs == 0) || nat_lt 64 (count runs)

-- the first fault of a job's runs and plan, the place and the value that has it: a run, or a value in the plan
pub data PartFault (fault : ReadFault) (plan : Data) (runs : Items) : List Into → Data → Type 0 where
  of_run : (i : ℕ) (v : Data) → FirstItem run_in fault runs i v
      → PartFault fault plan runs (key (codes "runs") ∷ index i ∷ []) v
  of_plan : (place : List Into) (v : Data) → IsRead (each run_in runs) → FirstFault fault plan place v
      → PartFault fault plan runs (key (codes "plan") ∷ place) v

-- the first fault of a job: that of its form, of the number of its runs, or of a run or the plan
pub data JobFault (fault : ReadFault) (job : Data) : List Into → Data → Type 0 where
  of_form : plan_and_runs_in job ≡ None → (job_in job).answer ≡ Err fault → JobFault fault job [] job
  of_number : (plan : Data) (runs : Items) → plan_and_runs_in job ≡ Some (plan, runs) → is_wrong_number runs ≡ true
      → (job_in job).answer ≡ Err fault → JobFault fault job (key (codes "runs") ∷ []) (array runs)
  of_part : (plan v : Data) (runs : Items) (place : List Into) → plan_and_runs_in job ≡ Some (plan, runs)
      → is_wrong_number runs ≡ false → PartFault fault plan runs place v → JobFault fault job place v

-- the first fault of jobs: that they are no array, or too many, or that of the first job that has one
pub data JobsFault (fault : ReadFault) (d : Data) : List Into → Data → Type 0 where
  of_whole : (as_array d ≡ None) ⊎ ((jobs : Items) × (as_array d ≡ Some jobs) × (nat_lt 4096 (count jobs) ≡ true))
      → jobs_of d ≡ Err fault → JobsFault fault d [] d
  of_job : (job v : Data) (jobs : Items) (i : ℕ) (place : List Into) → as_array d ≡ Some jobs
      → nat_lt 4096 (count jobs) ≡ false
      → FirstItem job_in fault jobs i job → JobFault fault job place v → JobsFault fault d (index i ∷ place) v

-- after these steps further ones lead to the first fault
abbrev pub PartLeadsOn : ReadFault → Data → Items → List Into → List Into → Data → Type 0
PartLeadsOn fault plan runs before place v =
    (rest : List Into) × (place ≡ before ++ rest) × PartFault fault plan runs rest v

abbrev pub JobLeadsOn : ReadFault → Data → List Into → List Into → Data → Type 0
JobLeadsOn fault job before place v = (rest : List Into) × (place ≡ before ++ rest) × JobFault fault job rest v
