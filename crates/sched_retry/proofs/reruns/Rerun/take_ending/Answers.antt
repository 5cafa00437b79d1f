-- A task whose ending was taken keeps its law.
use Rattle.std.proofs.Common.{is_some}
use Rattle.sched_run_machine.proofs.Made.{taken_so}
use Rattle.sched_retry.proofs.reruns.Rerun.take_ending.Goals as goal

pub invariant_of-self : goal.invariant_of-self
invariant_of-self g c =
    rw c.take.ensures.after (
      taken_so _ _ g.met.D.Draws.lawful _
          c.self.inside.machine c.self.inside.runner (is_some c.self.inside.ending) c.self.invariant.0,
      tt,
    )
