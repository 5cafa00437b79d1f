-- What a printing of jobs answers follows from what its steps answer.
use Rattle.std.proofs.Common.{◌≡◌, ℕ, List, Option, Some, Result, Ok, Err, IsUtf8, inl, inr}
use Rattle.std.proofs.KnownBytes.{Keeps-refl}
use Rattle.serde_json.specs.Read.{read}
use Rattle.serde_json.specs.View.{view}
use Rattle.serde_json.specs.declared.value.Value.{Value}
use Rattle.sched_plan.specs.declared.plans.PlanFault.TheVariants as builder
use Rattle.sched_plan_json.specs.declared.faults.ReadFault.{ReadFault}
use Rattle.sched_plan_json.specs.declared.faults.ReadFault.TheVariants as reading
use Rattle.sched_task_law.specs.Past.{Past}
use Rattle.sched_pool_json.specs.Each.{Lists}
use Rattle.sched_pool_json.specs.JobsOf.{reading_of_jobs}
use Rattle.sched_cli_plan.specs.Refusal.{refusal_of}
use Rattle.sched_cli_plan.specs.Printing.{ReadsValue}
use Rattle.sched_pool_json.specs.Job.{Job}
use Rattle.sched_cli_plan.specs.Whole.{IsWholeInput}
use Rattle.sched_cli_pool.specs.JobsPrinting.{SpellsJobs, ReadsJobs, IsRunFault, WritesPool, PrintsJobs}
use Rattle.sched_cli_plan.specs.declared.faults.PrintFault.{PrintFault}
use Rattle.sched_cli_plan.specs.declared.faults.PrintFault.TheVariants.{ReadFailed, TooLong, NotJson, NotAPlan}
use Rattle.sched_cli_plan.specs.declared.faults.PrintFault.TheVariants.{OutOfRange}
use Rattle.sched_cli_plan.specs.declared.faults.PrintFault.TheVariants.{TooDeep, TooMany, NoMemory, WriteFailed}
use Rattle.sched_cli_pool.specs.declared.faults.PoolFault.{PoolFault}
use Rattle.sched_cli_pool.specs.declared.faults.PoolFault.TheVariants.{Print, NotStarted, Unfinished, Mixed}

module _ (Runs : List Job → List Past → List ℕ → Type 0) (may : Type 0)
    (l m t : Option (List ℕ)) (bytes : List ℕ) (whole : IsWholeInput l m bytes) where
  -- a fault of reading ends the printing, with nothing written
  pub jobs_fault : (fault : PrintFault) → ReadsJobs bytes (Err fault) → PrintsJobs Runs may l m t t (Err (Print fault))
  jobs_fault NotJson reads = ((bytes, whole, reads), Keeps-refl t)
  jobs_fault NotAPlan reads = ((bytes, whole, reads), Keeps-refl t)
  jobs_fault OutOfRange reads = ((bytes, whole, reads), Keeps-refl t)
  jobs_fault TooDeep reads = ((bytes, whole, reads), Keeps-refl t)
  jobs_fault TooMany reads = ((bytes, whole, reads), Keeps-refl t)
  jobs_fault NoMemory reads = inl (Keeps-refl t)
  jobs_fault ReadFailed reads = absurd reads
  jobs_fault TooLong reads = absurd reads
  jobs_fault WriteFailed reads = absurd reads

  module _ (jobs : List Job) (spelt : SpellsJobs bytes jobs) where
    -- where the jobs are not run, nothing is written
    pub jobs_not_run : (fault : PoolFault) → IsRunFault may fault → PrintsJobs Runs may l m t t (Err fault)
    jobs_not_run (Print NoMemory) is = inl (Keeps-refl t)
    jobs_not_run NotStarted is = (is, (bytes, whole, (jobs, spelt, Keeps-refl t)))
    jobs_not_run Mixed is = (bytes, whole, (jobs, spelt, Keeps-refl t))
    jobs_not_run (Print ReadFailed) is = absurd is
    jobs_not_run (Print TooLong) is = absurd is
    jobs_not_run (Print NotJson) is = absurd is
    jobs_not_run (Print NotAPlan) is = absurd is
    jobs_not_run (Print OutOfRange) is = absurd is
    jobs_not_run (Print TooDeep) is = absurd is
    jobs_not_run (Print TooMany) is = absurd is
    jobs_not_run (Print WriteFailed) is = absurd is
    jobs_not_run Unfinished is = absurd is

    -- where they are run, their text is written
    pub jobs_written : (t' : Option (List ℕ)) (ends : List Past) (text : List ℕ) → Runs jobs ends text →
        (result : Result (Unit {0}) PoolFault) → WritesPool t t' ends text result → PrintsJobs Runs may l m t t' result
    jobs_written t' ends text run (Ok done) wrote = (bytes, whole, (jobs, spelt, (ends, text, run, wrote)))
    jobs_written t' ends text run (Err Unfinished) wrote = (bytes, whole, (jobs, spelt, (ends, text, run, wrote)))
    jobs_written t' ends text run (Err (Print WriteFailed)) wrote =
        (bytes, whole, (jobs, spelt, (ends, text, run, wrote)))
    jobs_written t' ends text run (Err (Print NoMemory)) wrote =
        inr (bytes, whole, (jobs, spelt, (ends, text, run, wrote)))
    jobs_written t' ends text run (Err (Print ReadFailed)) wrote = absurd wrote
    jobs_written t' ends text run (Err (Print TooLong)) wrote = absurd wrote
    jobs_written t' ends text run (Err (Print NotJson)) wrote = absurd wrote
    jobs_written t' ends text run (Err (Print NotAPlan)) wrote = absurd wrote
    jobs_written t' ends text run (Err (Print OutOfRange)) wrote = absurd wrote
    jobs_written t' ends text run (Err (Print TooDeep)) wrote = absurd wrote
    jobs_written t' ends text run (Err (Print TooMany)) wrote = absurd wrote
    jobs_written t' ends text run (Err NotStarted) wrote = absurd wrote
    jobs_written t' ends text run (Err Mixed) wrote = absurd wrote

-- bytes that spell no value spell no jobs
pub jobs_in_no_value : (bytes : List ℕ) (fault : PrintFault) → ReadsValue bytes (Err fault)
    → ReadsJobs bytes (Err fault)
jobs_in_no_value bytes NotJson reads = reads
jobs_in_no_value bytes NoMemory reads = reads
jobs_in_no_value bytes NotAPlan reads = absurd reads
jobs_in_no_value bytes OutOfRange reads = absurd reads
jobs_in_no_value bytes TooDeep reads = absurd reads
jobs_in_no_value bytes TooMany reads = absurd reads
jobs_in_no_value bytes ReadFailed reads = absurd reads
jobs_in_no_value bytes TooLong reads = absurd reads
jobs_in_no_value bytes WriteFailed reads = absurd reads

-- a value that is refused is no list of jobs, for the fault of reading it
pub jobs_refused : (bytes : List ℕ) (v : Value) (fault : ReadFault) → IsUtf8 bytes → read bytes ≡ Some (view v) →
    Lists {A = Job} (Err fault) (reading_of_jobs (view v)) → ReadsJobs bytes (Err (refusal_of fault))
jobs_refused bytes v reading.NotAPlan text is h = (view v, text, is, h)
jobs_refused bytes v (reading.Plan builder.OutOfRange) text is h = (view v, text, is, h)
jobs_refused bytes v (reading.Plan builder.TooDeep) text is h = (view v, text, is, h)
jobs_refused bytes v (reading.Plan builder.TooMany) text is h = (view v, text, is, h)
jobs_refused bytes v (reading.Plan builder.NoMemory) text is h = tt
