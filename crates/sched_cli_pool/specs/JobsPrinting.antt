-- What printing jobs that are run does to the bytes left and the bytes taken, whatever bytes come.
use Rattle.std.specs.Prelude.{◌≡◌, ℕ, ◌⊎◌, Bool, true, false, List, Vec, Option, Some, Result, Ok, Err}
use Rattle.std.specs.List.{list_all}
use Rattle.std.specs.Io.KnownBytes.{Appends, Keeps}
use Rattle.std.specs.declared.alloc.Global.{Global}
use Rattle.sched_plan.specs.declared.plans.PlanFault.TheVariants as refused
use Rattle.sched_plan_json.specs.declared.faults.ReadFault.{ReadFault}
use Rattle.sched_plan_json.specs.declared.faults.ReadFault.TheVariants as reading
use Rattle.sched_task.specs.declared.endings.How.{How}
use Rattle.sched_task.specs.declared.endings.How.TheVariants.{Won, ScheduleDone, BudgetRefused}
use Rattle.sched_task_law.specs.Past.{Past}
use Rattle.sched_pool_json.specs.Job.{Job}
use Rattle.sched_pool_json.specs.JobsOf.{jobs_of}
use Rattle.sched_cli_plan.specs.Whole.{StopsReading, count_of_reads, count_of_writes}
use Rattle.sched_cli_plan.specs.Printing.{Spells, SpellsNothing, IsInput, WritesText}
use Rattle.sched_cli_plan.specs.declared.faults.PrintFault.{PrintFault}
use Rattle.sched_cli_plan.specs.declared.faults.PrintFault.TheVariants.{ReadFailed, TooLong, NotJson, NotAPlan}
use Rattle.sched_cli_plan.specs.declared.faults.PrintFault.TheVariants.{OutOfRange}
use Rattle.sched_cli_plan.specs.declared.faults.PrintFault.TheVariants.{TooDeep, TooMany, NoMemory, WriteFailed}
use Rattle.sched_cli_pool.specs.declared.faults.PoolFault.{PoolFault}
use Rattle.sched_cli_pool.specs.declared.faults.PoolFault.TheVariants.{Print, NotStarted, Unfinished, Mixed}

-- the bytes spell these jobs
abbrev pub SpellsJobs : List ℕ → List Job → Type 0
SpellsJobs bytes jobs = Spells bytes (λ v. jobs_of v ≡ Ok jobs)

-- the bytes spell a value that is no list of jobs, for this fault
abbrev pub SpellsNoJobs : List ℕ → ReadFault → Type 0
SpellsNoJobs bytes fault = Spells bytes (λ v. jobs_of v ≡ Err fault)

-- what the bytes of jobs are read as
abbrev pub ReadsJobs : List ℕ → Result (Vec Job Global) PrintFault → Type 0
ReadsJobs bytes (Ok jobs) = SpellsJobs bytes jobs.items
ReadsJobs bytes (Err NotJson) = SpellsNothing bytes
ReadsJobs bytes (Err NotAPlan) = SpellsNoJobs bytes reading.NotAPlan
ReadsJobs bytes (Err OutOfRange) = SpellsNoJobs bytes (reading.Plan refused.OutOfRange)
ReadsJobs bytes (Err TooDeep) = SpellsNoJobs bytes (reading.Plan refused.TooDeep)
ReadsJobs bytes (Err TooMany) = SpellsNoJobs bytes (reading.Plan refused.TooMany)
ReadsJobs bytes (Err NoMemory) = Unit {0}
ReadsJobs bytes (Err ReadFailed) = ⊥
ReadsJobs bytes (Err TooLong) = ⊥
ReadsJobs bytes (Err WriteFailed) = ⊥

-- jobs that were read are not run for this reason; one is that a worker was not started, where that may be
abbrev pub IsRunFault : Type 0 → PoolFault → Type 0
IsRunFault may (Print NoMemory) = Unit {0}
IsRunFault may NotStarted = may
IsRunFault may Mixed = Unit {0}
IsRunFault may _ = ⊥

-- it won, or ended with the failure at which its schedule was done or the budget refused it
abbrev pub is_answered : Option How → Bool
is_answered (Some Won) = true
is_answered (Some ScheduleDone) = true
is_answered (Some BudgetRefused) = true
is_answered _ = false

abbrev pub all_answered : List Past → Bool
all_answered ends = list_all (λ v. is_answered v.over) ends

-- Writing the text of jobs that ended so: all of it, and whether each of them answered, or a front of it where a write
-- failed or memory was refused.
abbrev pub WritesPool : Option (List ℕ) → Option (List ℕ) → List Past → List ℕ → Result (Unit {0}) PoolFault → Type 0
WritesPool taken taken' ends text (Ok _) = (all_answered ends ≡ true) × Appends taken taken' text
WritesPool taken taken' ends text (Err Unfinished) = (all_answered ends ≡ false) × Appends taken taken' text
WritesPool taken taken' ends text (Err (Print fault)) = WritesText taken taken' text (Err fault)
WritesPool taken taken' ends text (Err _) = ⊥

-- the count of failed reads after a call: one more exactly where it answers `ReadFailed`
abbrev pub count_of_pool_reads : Result (Unit {0}) PoolFault → ℕ → ℕ
count_of_pool_reads (Err (Print fault)) count = count_of_reads {A = Unit {0}} (Err fault) count
count_of_pool_reads answer count = count

-- the count of failed writes after a call: one more exactly where it answers `WriteFailed`
abbrev pub count_of_pool_writes : Result (Unit {0}) PoolFault → ℕ → ℕ
count_of_pool_writes (Err (Print fault)) count = count_of_writes {A = Unit {0}} (Err fault) count
count_of_pool_writes answer count = count

-- the whole input was read and spells jobs, of which P is true
abbrev pub IsJobsInput : Option (List ℕ) → Option (List ℕ) → (List Job → Type 0) → Type 0
IsJobsInput left left' P = IsInput left left' (λ bytes. (jobs : List Job) × SpellsJobs bytes jobs × P jobs)

-- Jobs that are run so: of jobs, their ends and their text it says that they may end so. Whether a worker may not be
-- started is said by a type.
module _ (Runs : List Job → List Past → List ℕ → Type 0) (may : Type 0) where
  -- the jobs that were read were run, and P is true of their ends and their text
  abbrev pub IsRunInput : Option (List ℕ) → Option (List ℕ) → (List Past → List ℕ → Type 0) → Type 0
  IsRunInput left left' P =
      IsJobsInput left left' (λ jobs. (ends : List Past) × (text : List ℕ) × Runs jobs ends text × P ends text)

  -- The printing of jobs: at Ok and at `Unfinished` the whole text was written of the jobs that were read, and run; at
  -- a fault of reading nothing was written, and the input is at fault as the answer says; nothing was written where a
  -- worker was not started or the jobs were mixed up; at a failed write a front of the text was written; and so too
  -- where memory was refused, unless nothing was written.
  abbrev pub PrintsJobs : Option (List ℕ) → Option (List ℕ) → Option (List ℕ) → Option (List ℕ) →
      Result (Unit {0}) PoolFault → Type 0
  PrintsJobs left left' taken taken' (Ok done) =
      IsRunInput left left' (λ ends text. WritesPool taken taken' ends text (Ok done))
  PrintsJobs left left' taken taken' (Err Unfinished) =
      IsRunInput left left' (λ ends text. WritesPool taken taken' ends text (Err Unfinished))
  PrintsJobs left left' taken taken' (Err (Print WriteFailed)) =
      IsRunInput left left' (λ ends text. WritesPool taken taken' ends text (Err (Print WriteFailed)))
  PrintsJobs left left' taken taken' (Err (Print NoMemory)) =
      Keeps taken taken' ⊎ IsRunInput left left' (λ ends text. WritesPool taken taken' ends text (Err (Print NoMemory)))
  PrintsJobs left left' taken taken' (Err NotStarted) = may × IsJobsInput left left' (λ _. Keeps taken taken')
  PrintsJobs left left' taken taken' (Err Mixed) = IsJobsInput left left' (λ _. Keeps taken taken')
  PrintsJobs left left' taken taken' (Err (Print ReadFailed)) = StopsReading ReadFailed left left' × Keeps taken taken'
  PrintsJobs left left' taken taken' (Err (Print TooLong)) = StopsReading TooLong left left' × Keeps taken taken'
  PrintsJobs left left' taken taken' (Err (Print NotJson)) = IsInput left left' SpellsNothing × Keeps taken taken'
  PrintsJobs left left' taken taken' (Err (Print NotAPlan)) =
      IsInput left left' (λ bytes. SpellsNoJobs bytes reading.NotAPlan) × Keeps taken taken'
  PrintsJobs left left' taken taken' (Err (Print OutOfRange)) =
      IsInput left left' (λ bytes. SpellsNoJobs bytes (reading.Plan refused.OutOfRange)) × Keeps taken taken'
  PrintsJobs left left' taken taken' (Err (Print TooDeep)) =
      IsInput left left' (λ bytes. SpellsNoJobs bytes (reading.Plan refused.TooDeep)) × Keeps taken taken'
  PrintsJobs left left' taken taken' (Err (Print TooMany)) =
      IsInput left left' (λ bytes. SpellsNoJobs bytes (reading.Plan refused.TooMany)) × Keeps taken taken'
