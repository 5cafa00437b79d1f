-- Worked examples, computed with the definitions alone: the lines of jobs that have ended.
use Rattle.std.specs.Prelude.{◌≡◌, ℕ, false, List, [], ◌∷◌, Option, Some, None, codes, refl}
use Rattle.std.specs.Fmt.{digits}
use Rattle.sched_plan.specs.Schedule.{leaf}
use Rattle.sched_plan.specs.declared.leaves.Leaf.TheVariants.{Forever}
use Rattle.sched_effect.specs.declared.ran.Ran.{Ran}
use Rattle.sched_effect.specs.declared.ran.Ran.TheVariants as ran
use Rattle.sched_task.specs.declared.endings.How.{How}
use Rattle.sched_task.specs.declared.endings.How.TheVariants.{Won, ScheduleDone, BudgetRefused, Cancelled, Broken}
use Rattle.sched_task.specs.declared.endings.RunFault.TheVariants.{NoMemory, JournalFull, Backwards}
use Rattle.sched_task_law.specs.Past.{Past}
use Rattle.sched_cli_pool.specs.PoolText.{job_text, pool_text, quota_text}

-- a job that ended so after these runs, with so many tickets
abbrev pub ended : Option How → List Ran → ℕ → Past
ended how runs granted = record {
  driver = record { plan = leaf Forever; journal = [] };
  deadline = None;
  runs = runs;
  begun = [];
  over = how;
  denied = false;
  granted = granted;
}

pub won : job_text 0 (ended (Some Won) (ran.Lost 7 ∷ ran.Lost 7 ∷ ran.Won 1 ∷ []) 2) ≡ codes "job 0: won 1, granted 2\n"
unfolding digits
won = refl

pub schedule_done : job_text 1 (ended (Some ScheduleDone) (ran.Lost 7 ∷ ran.Lost 8 ∷ []) 1)
    ≡ codes "job 1: schedule done, failure 8, granted 1\n"
unfolding digits
schedule_done = refl

pub budget_refused : job_text 12 (ended (Some BudgetRefused) (ran.Lost 7 ∷ []) 10000)
    ≡ codes "job 12: budget refused, failure 7, granted 10000\n"
unfolding digits
budget_refused = refl

pub cancelled : job_text 2 (ended (Some Cancelled) [] 0) ≡ codes "job 2: cancelled, granted 0\n"
unfolding digits
cancelled = refl

pub no_memory : job_text 3 (ended (Some (Broken NoMemory)) (ran.Lost 7 ∷ []) 0)
    ≡ codes "job 3: broken, no memory, granted 0\n"
unfolding digits
no_memory = refl

pub journal_full : job_text 0 (ended (Some (Broken JournalFull)) (ran.Lost 7 ∷ []) 65536)
    ≡ codes "job 0: broken, journal full, granted 65536\n"
unfolding digits
journal_full = refl

pub clock_went_back : job_text 0 (ended (Some (Broken Backwards)) (ran.Lost 7 ∷ []) 0)
    ≡ codes "job 0: broken, clock went back, granted 0\n"
unfolding digits
clock_went_back = refl

pub not_over : job_text 0 (ended None [] 0) ≡ codes "job 0: not over, granted 0\n"
unfolding digits
not_over = refl

pub no_job : pool_text [] 0 100 ≡ codes "granted 0 of 100\n"
unfolding digits
no_job = refl

pub two_jobs : pool_text
    (ended (Some Won) (ran.Won 5 ∷ []) 0 ∷ ended (Some ScheduleDone) (ran.Lost 7 ∷ ran.Lost 8 ∷ []) 1 ∷ []) 1 4294967296
    ≡
    codes "job 0: won 5, granted 0\njob 1: schedule done, failure 8, granted 1\ngranted 1 of 4294967296\n"
unfolding digits
two_jobs = refl

pub no_job_on_a_quota : quota_text [] 0 0 ≡ codes "granted 0 in 0 windows\n"
unfolding digits
no_job_on_a_quota = refl

pub one_job_on_a_quota : quota_text (ended (Some BudgetRefused) (ran.Lost 7 ∷ []) 12 ∷ []) 12 3
    ≡ codes "job 0: budget refused, failure 7, granted 12\ngranted 12 in 3 windows\n"
unfolding digits
one_job_on_a_quota = refl
