-- What printing a pool on a quota does.
use Rattle.std.specs.Prelude.{◌≡◌, ℕ, List, Option, Result}
use Rattle.sched_task_law.specs.Past.{Past}
use Rattle.sched_pool_json.specs.Job.{Job}
use Rattle.sched_cli_pool.specs.PoolText.{quota_text}
use Rattle.sched_pool_scripted.specs.QuotaBatch.{AreRunOnQuota}
use Rattle.sched_cli_pool.specs.declared.faults.PoolFault.{PoolFault}
use Rattle.sched_cli_pool.specs.JobsPrinting.{PrintsJobs}
use Rattle.sched_cli_words.specs.declared.quotas.QuotaOptions.{QuotaOptions}

-- the jobs were run on the quota, and this is their text
abbrev pub RunsOnQuota : QuotaOptions → List Job → List Past → List ℕ → Type 0
RunsOnQuota o jobs ends text = (granted : ℕ) × (windows : ℕ)
    × AreRunOnQuota jobs o.terms ends granted windows × (text ≡ quota_text ends granted windows)

-- jobs that were run on the quota are printed; there is no worker that may not be started
abbrev pub PrintsQuotaPool : QuotaOptions → Option (List ℕ) → Option (List ℕ) → Option (List ℕ) → Option (List ℕ) →
    Result (Unit {0}) PoolFault → Type 0
PrintsQuotaPool o left left' taken taken' result = PrintsJobs (RunsOnQuota o) ⊥ left left' taken taken' result
