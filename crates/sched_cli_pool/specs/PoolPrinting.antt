-- What printing a pool on a budget does.
use Rattle.std.specs.Prelude.{◌≡◌, ℕ, List, Option, Result}
use Rattle.sched_task_law.specs.Past.{Past}
use Rattle.sched_pool_json.specs.Job.{Job}
use Rattle.sched_cli_pool.specs.PoolText.{pool_text}
use Rattle.sched_pool_scripted.specs.Batch.{AreRun}
use Rattle.sched_cli_pool.specs.declared.faults.PoolFault.{PoolFault}
use Rattle.sched_cli_pool.specs.JobsPrinting.{PrintsJobs}
use Rattle.sched_cli_words.specs.declared.options.PoolOptions.{PoolOptions}

-- the jobs were run on the budget, and this is their text
abbrev pub RunsOnBudget : PoolOptions → List Job → List Past → List ℕ → Type 0
RunsOnBudget o jobs ends text =
    (granted : ℕ) × AreRun jobs o.budget ends granted × (text ≡ pool_text ends granted o.budget)

-- jobs that were run on the budget are printed
abbrev pub PrintsPool : PoolOptions → Option (List ℕ) → Option (List ℕ) → Option (List ℕ) → Option (List ℕ) →
    Result (Unit {0}) PoolFault → Type 0
PrintsPool o left left' taken taken' result = PrintsJobs (RunsOnBudget o) (Unit {0}) left left' taken taken' result
