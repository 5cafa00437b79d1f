-- Which jobs a JSON value spells, or the first fault found in it. An object has its members in the order of their
-- names.
use Rattle.std.specs.Prelude.{false, ℕ, zero, suc, nat_lt, ◌||◌, ◌&&◌, ◌==◌, if◌then◌else◌, bytes_eq, codes, List, []}
use Rattle.std.specs.Prelude.{◌∷◌, Option, Some, None, Result, Ok, Err}
use Rattle.serde_json.specs.Data.{Data, array, object, Items, no_items, item, no_members, member}
use Rattle.sched_time.specs.declared.numbers.TheConstants.{FAR}
use Rattle.sched_plan.specs.declared.plans.PlanFault.TheVariants.{OutOfRange}
use Rattle.sched_effect.specs.declared.ran.Ran.{Ran}
use Rattle.sched_effect.specs.declared.ran.Ran.TheVariants.{Won, Lost}
use Rattle.sched_plan_json.specs.declared.faults.ReadFault.{ReadFault}
use Rattle.sched_plan_json.specs.declared.faults.ReadFault.TheVariants.{NotAPlan, Plan}
use Rattle.sched_plan_json.specs.Reading.{Reading, found_value, not_a_plan, then_read}
use Rattle.sched_plan_json.specs.Forms.{number_in, meant_by}
use Rattle.sched_plan_json.specs.PlanOf.{reading_of}
use Rattle.sched_pool_json.specs.Job.{Job}
use Rattle.sched_pool_json.specs.Each.{each, out_of_range, asking}

-- what the one member of a run says of it
abbrev pub outcomes : List (List ℕ × (ℕ → Ran))
outcomes =
    (codes "won", Won)
    ∷ (codes "lost", Lost)
    ∷ []

abbrev pub in_range : Option ℕ → Result ℕ ReadFault
in_range None = Err NotAPlan
in_range (Some n) = if nat_lt FAR n then Err (Plan OutOfRange) else Ok n

-- a code: a whole number from 0 to FAR
abbrev pub code_in : Data → Result ℕ ReadFault
code_in d = in_range (number_in d)

abbrev pub run_by : Option (ℕ → Ran) → Result ℕ ReadFault → Reading Ran
run_by None code = not_a_plan
run_by (Some outcome) (Ok code) = found_value (outcome code)
run_by (Some outcome) (Err fault) = record { answer = Err fault; asked = false }

-- {"won":CODE} or {"lost":CODE}
abbrev pub run_in : Data → Reading Ran
run_in (object (member name code no_members)) = run_by (meant_by outcomes name) (code_in code)
run_in _ = not_a_plan

-- the plan and the runs of an object that has these members and no other
abbrev pub plan_and_runs_in : Data → Option (Data × Items)
plan_and_runs_in (object (member first plan (member second (array runs) no_members))) =
    if bytes_eq first (codes "plan") && bytes_eq second (codes "runs") then Some (plan, runs) else None
plan_and_runs_in _ = None

-- how many items there are
abbrev pub count : Items → ℕ
count no_items = zero
count (item d ds) = suc (count ds)

-- the runs from left to right, and then the plan
abbrev pub job_of : Data → Items → Reading Job
job_of plan runs =
    then_read (each run_in runs) (λ script.
    then_read (reading_of plan) (λ s.
    found_value (record { plan = s; script = script })))

-- once their number is right, memory is asked for them
abbrev pub job_with : Option (Data × Items) → Reading Job
job_with None = not_a_plan
job_with (Some (plan, runs)) =
    if (count runs == 0) || nat_lt 64 (count runs) then out_of_range else asking (job_of plan runs)

-- {"plan":PLAN,"runs":[RUN,..]}
abbrev pub job_in : Data → Reading Job
job_in d = job_with (plan_and_runs_in d)

-- the jobs in order, where their number is in range
abbrev pub jobs_in : Items → Reading (List Job)
jobs_in jobs = if nat_lt 4096 (count jobs) then out_of_range else each job_in jobs

-- [JOB,..]
abbrev pub reading_of_jobs : Data → Reading (List Job)
reading_of_jobs (array jobs) = jobs_in jobs
reading_of_jobs _ = not_a_plan

-- the jobs that a JSON value spells, or the first fault: at most 4,096 jobs, and of each first its members, then the
-- number of its runs, then its runs from left to right, and last its plan
abbrev pub jobs_of : Data → Result (List Job) ReadFault
jobs_of d = (reading_of_jobs d).answer
