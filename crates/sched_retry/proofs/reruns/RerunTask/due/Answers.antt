-- The moment to wait for is that of each journal.
use Rattle.std.proofs.Common.{ap, ◌∙◌}
use Rattle.sched_task_law.specs.Past.{waits_by}
use Rattle.sched_run_machine.specs.Retrying.{RetryingOf}
use Rattle.sched_run_machine.proofs.Made.{made_waits}
use Rattle.sched_retry.proofs.reruns.RerunTask.due.Goals as goal

pub returns : goal.returns
returns g c =
    c.due.ensures _ c.self.invariant.0.1 ∙ made_waits _ _ g.met.D.Draws.lawful _
    g.met.R.Drives.plans _ _ _ c.self.invariant.0
    ∙ ap (λ (v : RetryingOf g.row.R.Denot g.row.D.Denot). waits_by (g.R.Drives.driving.starts v.past.driver) v.past)
    c.self.view_is
