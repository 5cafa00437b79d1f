-- `print_quota_pool` writes a line for each job that was read and run on the quota, and the total.
use Rattle.std.proofs.Common.{◌++◌, ℕ, List, string_bytes, subst}
use Rattle.sched_pool_json.specs.Job.{Job}
use Rattle.sched_cli_pool.specs.PoolText.{lines_from}
use Rattle.sched_cli_pool.specs.JobsPrinting.{SpellsJobs}
use Rattle.sched_cli_pool.specs.QuotaPrinting.{RunsOnQuota}
use Rattle.sched_cli_pool.proofs.JobsFaults.{jobs_written}
use Rattle.sched_cli_pool.proofs.quota_pools.print_quota_pool.Goals as goal

pub returns-clause-text : goal.returns-clause-text
returns-clause-text g c =
    let jobs = c.in_ok-jobs.jobs.items in
    let ended = c.in_ok-ended.ended in
    let text = lines_from 0 ended.ends.items ++ string_bytes ended.total in
    let spelt = subst (λ (bytes : List ℕ). SpellsJobs bytes jobs) c.deref.ensures.value c.in_ok-jobs.ensures.jobs in
    let run =
    subst (λ (read : List Job). RunsOnQuota c.args.options.now read ended.ends.items text) c.deref-2.ensures.value
    c.in_ok-ended.ensures.ok in
    jobs_written
    (RunsOnQuota c.args.options.now) _ _ _ _ c.in_ok-bytes.bytes.items c.in_ok-bytes.ensures.bytes jobs spelt
    _ ended.ends.items text run c.write_ended.result c.write_ended.ensures.text
