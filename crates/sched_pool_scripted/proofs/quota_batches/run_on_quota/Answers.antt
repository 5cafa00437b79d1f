-- The batch has the ends of the jobs that were read, and the tickets and windows that the quota gave.
use Rattle.std.proofs.Common.{ℕ, List, length, subst, ◌∙◌}
use Rattle.std.specs.Prelude.{All}
use Rattle.sched_task_law.specs.Past.{Past}
use Rattle.sched_pool_scripted.specs.Ends.{AreEndsOf}
use Rattle.sched_pool_scripted.specs.QuotaBatch.{IsJust}
use Rattle.sched_pool_scripted.proofs.Noted.{moved_same}
use Rattle.sched_pool_scripted.proofs.Taken.{are_run}
use Rattle.sched_pool_scripted.proofs.quota_batches.run_on_quota.Goals as goal

pub returns : goal.returns
returns g c =
    let back = c.in_ok-ends.field-0 in
    let sorted = c.sort_unstable.new.self.items in
    are_run c.args.jobs.now c.in-Ok.made.0 c.args.terms back.ends.items back.pass back.windows.items sorted
    c.in_ok-granted.granted c.count_windows-windows.result
    (c.in-Ok.ensures.ok.0 ∙ c.copied.ensures)
    (subst (AreEndsOf c.args.jobs.now) c.deref.ensures.value (c.are_ends_of.ensures c.if-not-are_ends_of.false))
    c.in_ok-ends.ensures c.in_ok-granted.ensures.whole c.in_ok-granted.ensures.granted
    (moved_same back.windows.items sorted _ c.sort_unstable.ensures.permutation c.in_ok-ends.ensures.noted)
    c.count_windows-windows.ensures
    (subst (λ (ends : List Past). All (IsJust c.args.terms (length c.args.jobs.now) sorted) ends)
    c.deref-2.ensures.value
    (subst (λ (ws : List ℕ). All (IsJust c.args.terms (length c.args.jobs.now) ws) c.deref-2.result.now)
    c.deref-3.ensures.value (c.are_just.ensures c.if-not-are_just.false)))
