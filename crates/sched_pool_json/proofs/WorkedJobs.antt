-- Worked examples, computed with the definitions alone: which jobs a JSON value spells, or its first fault.
use Rattle.std.specs.Prelude.{◌≡◌, ℕ, zero, suc, codes, [], ◌∷◌, Ok, Err, true, false, refl}
use Rattle.serde_json.specs.Data.{Data, number, unsigned, string, array, object, Items, no_items, item, no_members}
use Rattle.serde_json.specs.Data.{member}
use Rattle.sched_plan.specs.Schedule.{leaf}
use Rattle.sched_plan.specs.declared.leaves.Leaf.TheVariants.{Forever, Recurs}
use Rattle.sched_plan.specs.declared.plans.PlanFault.TheVariants.{OutOfRange}
use Rattle.sched_effect.specs.declared.ran.Ran.TheVariants.{Won, Lost}
use Rattle.sched_plan_json.specs.declared.faults.ReadFault.TheVariants.{NotAPlan, Plan}
use Rattle.sched_pool_json.specs.JobsOf.{jobs_of, reading_of_jobs}

abbrev pub seven : Data
seven = number (unsigned 7)

abbrev pub forever : Data
forever = string (codes "forever")

-- {"recurs":5}
abbrev pub recurs_5 : Data
recurs_5 = object (member (codes "recurs") (number (unsigned 5)) no_members)

-- {"won":n} and {"lost":n}
abbrev pub won : ℕ → Data
won n = object (member (codes "won") (number (unsigned n)) no_members)

abbrev pub lost : ℕ → Data
lost n = object (member (codes "lost") (number (unsigned n)) no_members)

-- {"plan":plan,"runs":[..]}
abbrev pub job : Data → Items → Data
job plan runs = object (member (codes "plan") plan (member (codes "runs") (array runs) no_members))

abbrev pub one_of : Data → Items
one_of d = item d no_items

-- the same item so many times
abbrev pub times : ℕ → Data → Items
times zero d = no_items
times (suc n) d = item d (times n d)

pub no_job : jobs_of (array no_items) ≡ Ok []
no_job = refl

pub two_jobs : jobs_of
    (array (item (job recurs_5 (item (lost 7) (one_of (won 1))))
    (one_of (job forever (one_of (lost 4611686018427387903)))))) ≡
    Ok (record { plan = leaf (Recurs 5); script = Lost 7 ∷ Won 1 ∷ [] } ∷ record {
      plan = leaf Forever;
      script = Lost 4611686018427387903 ∷ [];
    } ∷ [])
two_jobs = refl

pub number_is_no_list : jobs_of seven ≡ Err NotAPlan
number_is_no_list = refl

pub job_alone_is_no_list : jobs_of (job forever (one_of (won 1))) ≡ Err NotAPlan
job_alone_is_no_list = refl

pub third_member : jobs_of
    (array (one_of
    (object
    (member (codes "more") seven
    (member (codes "plan") forever (member (codes "runs") (array (one_of (won 1))) no_members)))))) ≡
    Err NotAPlan
third_member = refl

pub code_past_the_end : jobs_of (array (one_of (job forever (one_of (won 4611686018427387904)))))
    ≡ Err (Plan OutOfRange)
code_past_the_end = refl

-- the number of runs is looked at before the runs and the plan
pub no_run : jobs_of (array (one_of (job seven no_items))) ≡ Err (Plan OutOfRange)
no_run = refl

pub runs_65 : jobs_of (array (one_of (job seven (times 65 seven)))) ≡ Err (Plan OutOfRange)
runs_65 = refl

pub runs_64 : jobs_of (array (one_of (job seven (times 64 seven)))) ≡ Err NotAPlan
runs_64 = refl

-- runs are looked at before the plan
pub run_before_plan : jobs_of (array (one_of (job seven (one_of (won 4611686018427387904))))) ≡ Err (Plan OutOfRange)
run_before_plan = refl

-- a job's plan is looked at before the next job
pub plan_before_next_job : jobs_of (array (item (job seven (one_of (won 1))) (one_of (job forever no_items))))
    ≡ Err NotAPlan
plan_before_next_job = refl

-- memory is asked for a job's runs, once their number is right
pub no_memory_for_none : (reading_of_jobs (array no_items)).asked ≡ false
no_memory_for_none = refl

pub no_memory_for_no_run : (reading_of_jobs (array (one_of (job forever no_items)))).asked ≡ false
no_memory_for_no_run = refl

pub memory_for_a_run : (reading_of_jobs (array (one_of (job forever (one_of seven))))).asked ≡ true
memory_for_a_run = refl
