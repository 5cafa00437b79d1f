-- It keeps the law.
use Rattle.sched_run_machine.proofs.Made.{keeps_law}
use Rattle.sched_retry.proofs.reruns.RerunTask.over.Goals as goal

pub returns-clause-law : goal.returns-clause-law
returns-clause-law g c =
    rw (← c.self.view_is) (keeps_law _ _ g.met.D.Draws.lawful _ _ _ _ c.self.invariant.0)
