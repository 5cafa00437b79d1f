-- What is true of the first fault of jobs and of its place.
use Rattle.std.proofs.Common.{◌≡◌, ℕ, zero, suc, Bool, true, false, cond, ◌&&◌, List, ◌∷◌, Some, Err, codes, refl, sym}
use Rattle.std.proofs.Common.{ap, ◌∙◌, subst}
use Rattle.std.specs.Prelude.{bytes_eq, nat_lt}
use Rattle.std.proofs.lemmas.Bool.{false≢true}
use Rattle.std.proofs.lemmas.Option.{none-some, cond_some}
use Rattle.std.specs.Cmp.Lexicographic.{bytes_decides}
use Rattle.serde_json.specs.Data.{Data, array, object, Items, no_items, item, no_members, member}
use Rattle.serde_json.specs.Find.{get, get_item, as_array}
use Rattle.sched_plan_json.specs.Reading.{Reading, found_value}
use Rattle.sched_plan_json.specs.PlanOf.{reading_of}
use Rattle.sched_plan_json.specs.declared.faults.ReadFault.{ReadFault}
use Rattle.sched_pool_json.specs.Each.{each, out_of_range}
use Rattle.sched_pool_json.specs.JobsOf.{count, run_in, job_in, job_of, jobs_of, plan_and_runs_in}
use Rattle.sched_plan_check.specs.Places.{Into, value_at}
use Rattle.sched_pool_check.specs.JobFaults.{FirstItem, is_wrong_number, PartFault, of_run, of_plan, JobFault, of_form}
use Rattle.sched_pool_check.specs.JobFaults.{of_number, of_part, JobsFault, of_whole, of_job}
use Rattle.sched_plan_check.proofs.Leads.{leads, whole, found_first, fault_first}

both : (a b : Bool) → (a && b) ≡ true → (a ≡ true) × (b ≡ true)
both true b e = (refl, e)
both false b e = absurd (false≢true e)

-- a job's plan and runs are its members
pub record HasMembers (job plan : Data) (runs : Items) : Type 0 where
  pub plan_is : get (codes "plan") job ≡ Some plan
  pub runs_are : get (codes "runs") job ≡ Some (array runs)

named : (first second : List ℕ) (plan : Data) (runs : Items) → first ≡ codes "plan" → second ≡ codes "runs" →
    HasMembers (object (member first plan (member second (array runs) no_members))) plan runs
named first second plan runs e f = rw (e, f) (record { plan_is = refl; runs_are = refl })

pub has_members : (job plan : Data) (runs : Items) → plan_and_runs_in job ≡ Some (plan, runs) → HasMembers job plan runs
has_members (object (member first p (member second (array r) no_members))) plan runs is =
    let parts = cond_some (bytes_eq first (codes "plan") && bytes_eq second (codes "runs")) (p, r) (plan, runs) is in
    let names = both (bytes_eq first (codes "plan")) (bytes_eq second (codes "runs")) parts.0 in
    subst (λ (q : Data × Items). HasMembers (object (member first p (member second (array r) no_members))) q.0 q.1)
    parts.1
    (named first second p r ((bytes_decides first (codes "plan")).0 names.0)
    ((bytes_decides second (codes "runs")).0 names.1))
has_members _ plan runs is = absurd (none-some (plan, runs) is)

item_stands : {A : Type 0} (reads : Data → Reading A) (fault : ReadFault) (items : Items) (i : ℕ) (d : Data)
    → FirstItem reads fault items i d →
    get_item i items ≡ Some d
item_stands reads fault no_items i d h = absurd h
item_stands reads fault (item e items) zero d h = ap Some h.0
item_stands reads fault (item e items) (suc i) d h = item_stands reads fault items i d h.1

pub item_refused : {A : Type 0} (reads : Data → Reading A) (fault : ReadFault) (items : Items) (i : ℕ) (d : Data)
    → FirstItem reads fault items i d →
    (reads d).answer ≡ Err fault
item_refused reads fault no_items i d h = absurd h
item_refused reads fault (item e items) zero d h = subst (λ x. (reads x).answer ≡ Err fault) h.0 h.1
item_refused reads fault (item e items) (suc i) d h = item_refused reads fault items i d h.1

-- it is the first whatever its fault is called
pub first_with : {A : Type 0} (reads : Data → Reading A) (own fault : ReadFault) (items : Items) (i : ℕ) (d : Data)
    → FirstItem reads own items i d →
    (reads d).answer ≡ Err fault → FirstItem reads fault items i d
first_with reads own fault no_items i d h is = absurd h
first_with reads own fault (item e items) zero d h is = (h.0, subst (λ x. (reads x).answer ≡ Err fault) (sym h.0) is)
first_with reads own fault (item e items) (suc i) d h is = (h.0, first_with reads own fault items i d h.1 is)

item_fault : {A : Type 0} (reads : Data → Reading A) (fault : ReadFault) (items : Items) (i : ℕ) (d : Data)
    → FirstItem reads fault items i d →
    (each reads items).answer ≡ Err fault
item_fault reads fault no_items i d h = absurd h
item_fault reads fault (item e items) zero d h = fault_first (reads e) _ fault h.1
item_fault reads fault (item e items) (suc i) d h =
    found_first (reads e) _ h.0.0 h.0.1
    ∙ fault_first (each reads items) (λ xs. found_value (h.0.0 ∷ xs)) fault (item_fault reads fault items i d h.1)

part_leads : (fault : ReadFault) (job plan : Data) (runs : Items) (place : List Into) (v : Data)
    → HasMembers job plan runs →
    PartFault fault plan runs place v → value_at place job ≡ Some v
part_leads fault job plan runs place v has (of_run i _ first) =
    rw has.runs_are (rw (item_stands run_in fault runs i v first) refl)
part_leads fault job plan runs place v has (of_plan rest _ read first) = rw has.plan_is (leads fault plan rest v first)

part_whole : (fault : ReadFault) (plan : Data) (runs : Items) (place : List Into) (v : Data)
    → PartFault fault plan runs place v →
    (job_of plan runs).answer ≡ Err fault
part_whole fault plan runs place v (of_run i _ first) =
    fault_first (each run_in runs) _ fault (item_fault run_in fault runs i v first)
part_whole fault plan runs place v (of_plan rest _ read first) =
    found_first (each run_in runs) _ read.0 read.1
    ∙ fault_first (reading_of plan) _ fault (whole fault plan rest v first)

job_leads : (fault : ReadFault) (job : Data) (place : List Into) (v : Data) → JobFault fault job place v
    → value_at place job ≡ Some v
job_leads fault job place v (of_form form is) = refl
job_leads fault job place v (of_number plan runs form wrong is) = rw ((has_members job plan runs form).runs_are) refl
job_leads fault job place v (of_part plan _ runs _ form few part) =
    part_leads fault job plan runs place v (has_members job plan runs form) part

pub few_runs : (job plan : Data) (runs : Items) → plan_and_runs_in job ≡ Some (plan, runs)
    → is_wrong_number runs ≡ false →
    (job_in job).answer ≡ (job_of plan runs).answer
few_runs job plan runs form few = rw (form, few) refl

pub job_whole : (fault : ReadFault) (job : Data) (place : List Into) (v : Data) → JobFault fault job place v
    → (job_in job).answer ≡ Err fault
job_whole fault job place v (of_form form is) = is
job_whole fault job place v (of_number plan runs form wrong is) = is
job_whole fault job place v (of_part plan _ runs _ form few part) =
    few_runs job plan runs form few ∙ part_whole fault plan runs place v part

array_of : (d : Data) (jobs : Items) → as_array d ≡ Some jobs → d ≡ array jobs
array_of (array ds) jobs is = ap array (cond_some true ds jobs is).1
array_of _ jobs is = absurd (none-some jobs is)

pub jobs_lead : (fault : ReadFault) (d : Data) (place : List Into) (v : Data) → JobsFault fault d place v
    → value_at place d ≡ Some v
jobs_lead fault d place v (of_whole why is) = refl
jobs_lead fault d place v (of_job job _ jobs i rest are few first part) =
    rw (array_of d jobs are) (rw (item_stands job_in fault jobs i job first) (job_leads fault job rest v part))

pub few_jobs : (d : Data) (jobs : Items) → as_array d ≡ Some jobs → nat_lt 4096 (count jobs) ≡ false
    → jobs_of d ≡ (each job_in jobs).answer
few_jobs d jobs are few = rw (array_of d jobs are) (ap (λ b. (cond b out_of_range (each job_in jobs)).answer) few)

pub jobs_whole : (fault : ReadFault) (d : Data) (place : List Into) (v : Data) → JobsFault fault d place v
    → jobs_of d ≡ Err fault
jobs_whole fault d place v (of_whole why is) = is
jobs_whole fault d place v (of_job job _ jobs i rest are few first part) =
    few_jobs d jobs are few ∙ item_fault job_in fault jobs i job first
