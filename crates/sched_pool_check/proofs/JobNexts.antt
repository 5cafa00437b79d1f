-- How the place of a fault of jobs leads on.
use Rattle.std.proofs.Common.{◌≡◌, ◌⊎◌, ℕ, true, false, List, [], ◌∷◌, ◌++◌, Some, None, Err, is_ok, codes, sym, ap}
use Rattle.std.proofs.Common.{◌∙◌, subst}
use Rattle.std.specs.Prelude.{nat_lt}
use Rattle.std.proofs.lemmas.Bool.{false≢true}
use Rattle.std.proofs.lemmas.List.{append_assoc, append-nil, map-append}
use Rattle.std.proofs.lemmas.Option.{none-some, cond_some}
use Rattle.serde_json.specs.Data.{Data, array, Items}
use Rattle.serde_json.specs.Find.{get, as_array}
use Rattle.serde_json.specs.View.{view}
use Rattle.sched_plan_json.specs.declared.faults.ReadFault.{ReadFault}
use Rattle.sched_pool_json.specs.Each.{each}
use Rattle.sched_pool_json.specs.JobsOf.{count, run_in, job_in, job_of, jobs_of, plan_and_runs_in}
use Rattle.sched_plan_check.specs.declared.places.Fault.{Fault}
use Rattle.sched_plan_check.specs.declared.places.Step.{Step}
use Rattle.sched_plan_check.specs.Places.{Into, key, index, step_of, place_of}
use Rattle.sched_plan_check.specs.Checked.{IsPlanFault}
use Rattle.sched_pool_check.specs.Checked.{IsJobsFault}
use Rattle.sched_pool_check.specs.JobFaults.{IsRead, FirstItem, is_wrong_number, of_plan, JobFault, of_form, of_number}
use Rattle.sched_pool_check.specs.JobFaults.{of_part, JobsFault, of_whole, of_job, PartLeadsOn, JobLeadsOn}
use Rattle.sched_pool_check.proofs.JobLeads.{has_members, few_runs, few_jobs, first_with, job_whole, jobs_lead}
use Rattle.sched_pool_check.proofs.JobLeads.{jobs_whole}

-- one step more
pub pushed : (old new : List Step) (s : Step) → new ≡ old ++ s ∷ [] → place_of new ≡ place_of old ++ step_of s ∷ []
pushed old new s is = ap place_of is ∙ map-append step_of old (s ∷ [])

pub pushed_twice : (old middle new : List Step) (s t : Step) → middle ≡ old ++ s ∷ [] → new ≡ middle ++ t ∷ [] →
    place_of new ≡ place_of old ++ step_of s ∷ step_of t ∷ []
pushed_twice old middle new s t is then =
    pushed middle new t then ∙ ap (λ p. p ++ step_of t ∷ []) (pushed old middle s is)
    ∙ append_assoc (place_of old) (step_of s ∷ []) (step_of t ∷ [])

-- from the plan on, its own place leads to its first fault
pub to_plan : (plan : Data) (runs : Items) (found : Fault) (old middle new : List Step) (s : Step)
    → step_of s ≡ key (codes "plan") →
    middle ≡ old ++ s ∷ [] → new ≡ middle ++ found.place.items → IsRead (each run_in runs) → IsPlanFault plan found →
    PartLeadsOn found.fault plan runs (place_of old) (place_of new) (view found.value.now)
to_plan plan runs found old middle new s is step steps read first = (
  key (codes "plan") ∷ place_of found.place.items,
  ap place_of steps ∙ map-append step_of middle found.place.items
      ∙ ap (λ p. p ++ place_of found.place.items) (pushed old middle s step)
      ∙ append_assoc (place_of old) (step_of s ∷ []) (place_of found.place.items)
      ∙ ap (λ x. place_of old ++ x ∷ place_of found.place.items) is,
  of_plan (place_of found.place.items) (view found.value.now) read first.first,
)

pub to_form : (job : Data) (fault : ReadFault) (place : List Into) → plan_and_runs_in job ≡ None
    → (job_in job).answer ≡ Err fault →
    JobLeadsOn fault job place place job
to_form job fault place form is = ([], sym (append-nil place), of_form form is)

-- the member of the runs is there
pub has_runs : (job plan : Data) (runs : Items) → plan_and_runs_in job ≡ Some (plan, runs)
    → None ≡ get (codes "runs") job → ⊥
has_runs job plan runs form none = none-some (array runs) (none ∙ (has_members job plan runs form).runs_are)

pub to_number : (job plan v : Data) (runs : Items) (fault : ReadFault) (before place : List Into)
    → plan_and_runs_in job ≡ Some (plan, runs) →
    is_wrong_number runs ≡ true → Some v ≡ get (codes "runs") job → (job_in job).answer ≡ Err fault →
    place ≡ before ++ key (codes "runs") ∷ [] → JobLeadsOn fault job before place v
to_number job plan v runs fault before place form wrong at is step =
    let same : array runs ≡ v =
    (cond_some true (array runs) v (sym (has_members job plan runs form).runs_are ∙ sym at)).1 in (
      key (codes "runs") ∷ [],
      step,
      subst (λ d. JobFault fault job (key (codes "runs") ∷ []) d) same (of_number plan runs form wrong is),
    )

pub to_part : (job plan v : Data) (runs : Items) (fault : ReadFault) (before place : List Into)
    → plan_and_runs_in job ≡ Some (plan, runs) →
    is_wrong_number runs ≡ false → PartLeadsOn fault plan runs before place v → JobLeadsOn fault job before place v
to_part job plan v runs fault before place form few on = (on.0, on.1, of_part plan v runs on.0 form few on.2)

-- runs and a plan have a fault where their job has one and the number of the runs is right
pub part_refused : (job plan : Data) (runs : Items) (fault : ReadFault) → plan_and_runs_in job ≡ Some (plan, runs)
    → is_wrong_number runs ≡ false →
    (job_in job).answer ≡ Err fault → is_ok (job_of plan runs).answer ≡ false
part_refused job plan runs fault form few is = ap is_ok (sym (few_runs job plan runs form few) ∙ is)

-- the whole has the fault
pub to_whole : (d : Data) (fault : ReadFault) (place : List Step) → place ≡ [] →
    (as_array d ≡ None) ⊎ ((jobs : Items) × (as_array d ≡ Some jobs) × (nat_lt 4096 (count jobs) ≡ true))
    → jobs_of d ≡ Err fault →
    JobsFault fault d (place_of place) d
to_whole d fault place none why is = subst (λ p. JobsFault fault d (place_of p) d) (sym none) (of_whole why is)

-- one of the jobs has it
pub has_job : (d : Data) (jobs : Items) (fault : ReadFault) → as_array d ≡ Some jobs → nat_lt 4096 (count jobs) ≡ false
    → jobs_of d ≡ Err fault →
    IsRead (each job_in jobs) → ⊥
has_job d jobs fault are few is read =
    false≢true (ap is_ok (sym is ∙ few_jobs d jobs are few ∙ read.1))

pub to_job : (d job v : Data) (jobs : Items) (i : ℕ) (own fault : ReadFault) (old new : List Step) (s : Step)
    (place : List Into) → as_array d ≡ Some jobs →
    nat_lt 4096 (count jobs) ≡ false → FirstItem job_in own jobs i job → old ≡ [] → new ≡ old ++ s ∷ []
    → step_of s ≡ index i →
    JobLeadsOn fault job (place_of new) place v → JobsFault fault d place v
to_job d job v jobs i own fault old new s place are few first none step is on =
    let at : place_of new ≡ index i ∷ [] =
    pushed old new s step ∙ ap (λ steps. place_of steps ++ step_of s ∷ []) none ∙ ap (λ x. x ∷ []) is in
    subst (λ p. JobsFault fault d p v) (sym (on.1 ∙ ap (λ p. p ++ on.0) at))
    (of_job job v jobs i on.0 are few
    (first_with job_in own fault jobs i job first (job_whole fault job on.0 v on.2)) on.2)

-- the place of a fault of jobs leads to the value that has it
pub jobs_fault : (d : Data) (found : Fault)
    → JobsFault found.fault d (place_of found.place.items) (view found.value.now) → IsJobsFault d found
jobs_fault d found first = record {
  fault = jobs_whole found.fault d _ _ first;
  leads = jobs_lead found.fault d _ _ first;
  first = first;
}
