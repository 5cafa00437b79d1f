-- The batch has the ends of the jobs that were read, and the tickets that the budget gave.
use Rattle.std.proofs.Common.{List, subst, sym}
use Rattle.sched_task_law.specs.Past.{Past}
use Rattle.sched_pool_scripted.specs.Ends.{AreEndsOf}
use Rattle.sched_pool_scripted.specs.Batch.{AreRun}
use Rattle.sched_pool_scripted.proofs.Totals.{are_run}
use Rattle.sched_pool_scripted.proofs.batches.run_batch.Goals as goal

pub returns : goal.returns
returns g c =
    let end = c.in_ok-end.end in
    let batch = c.in_ok-batch.ensures in
    subst (λ (ends : List Past). AreRun c.args.jobs.now c.args.limit ends c.in_ok-batch.batch.granted) (sym batch.ends)
    (are_run c.totals_agree.ensures c.args.jobs.now c.args.limit c.in-Ok.made.0 _ end.jobs.items end.pass end.granted _
    c.in-Ok.ensures.ok.0 c.in_ok-end.ensures.end batch.whole batch.granted
    (subst (AreEndsOf c.args.jobs.now) c.deref.ensures.value (c.are_ends_of.ensures c.if-not-are_ends_of.false)))
