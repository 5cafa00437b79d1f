-- The tickets of a retry are as many as its events, less one at a stop.
use Rattle.std.proofs.Common.{ap, ◌∙◌}
use Rattle.sched_task_law.proofs.Events.{events_law}
use Rattle.sched_run_machine.specs.Retrying.{RetryingOf}
use Rattle.sched_retry.proofs.reruns.Rerun.granted.Goals as goal

pub returns-clause-granted : goal.returns-clause-granted
returns-clause-granted g c =
    c.granted.ensures.granted _ c.self.invariant.0.1
    ∙ ap (λ (v : RetryingOf g.row.R.Denot g.row.D.Denot). v.past.granted) c.self.view_is

pub returns-clause-events : goal.returns-clause-events
returns-clause-events g c =
    let kind = g.A.Aims.kind g.R.Drives.driving.keeps in
    let is = returns-clause-granted g c in
    λ retries d may. rw is (events_law kind retries _ may.law.law)
