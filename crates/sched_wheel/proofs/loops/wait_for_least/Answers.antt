-- The clock was asked to wait until the least moment.
use Rattle.sched_wheel.proofs.Polls.{asked_until}
use Rattle.sched_wheel.proofs.loops.wait_for_least.Goals as goal

pub returns-in_err-reach-clause-asked : goal.returns-in_err-reach-clause-asked
returns-in_err-reach-clause-asked g c = asked_until _ _ _ _ _ _ c.wait_until.ensures

pub returns-clause-asked : goal.returns-clause-asked
returns-clause-asked g c = asked_until _ _ _ _ _ _ c.wait_until.ensures
