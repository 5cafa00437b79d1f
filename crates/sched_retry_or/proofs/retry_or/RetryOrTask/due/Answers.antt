-- It waits for what the retry beneath waits for.
use Rattle.std.proofs.Common.{ap, ◌∙◌}
use Rattle.sched_retry_or.specs.Falling.{Falling, falls_due}
use Rattle.sched_retry_or.proofs.Polls.{due_as}
use Rattle.sched_retry_or.proofs.retry_or.RetryOrTask.due.Goals as goal

pub returns : goal.returns
returns g c =
    c.due.ensures ∙ due_as _ _ _ _ c.self.invariant.law
    ∙ ap (λ (v : Falling g.row.R.Denot g.row.D.Denot). falls_due g.R.Drives.driving v) c.self.view_is
