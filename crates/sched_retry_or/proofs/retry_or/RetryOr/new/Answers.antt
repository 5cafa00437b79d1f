-- A retry that has not begun keeps its law.
use Rattle.std.proofs.Common.{refl, ap}
use Rattle.sched_task_law.specs.Past.{PastOf}
use Rattle.sched_retry_or.proofs.Polls.{new_is}
use Rattle.sched_retry_or.proofs.retry_or.RetryOr.new.Goals as goal

pub invariant_of-result : goal.invariant_of-result
invariant_of-result g c =
    new_is _ _ _ _ _ _ c.over-over.ensures.law
    c.over-over.ensures.over (ap (λ (p : PastOf g.row.R.Denot). p.over) c.new-retry.ensures.past) refl
