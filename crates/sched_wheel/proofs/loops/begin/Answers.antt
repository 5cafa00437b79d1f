-- The clock was asked for the moment at which the loop begins.
use Rattle.sched_wheel.proofs.Polls.{asked_now}
use Rattle.sched_wheel.proofs.loops.begin.Goals as goal

pub returns-in_err-agenda-clause-asked : goal.returns-in_err-agenda-clause-asked
returns-in_err-agenda-clause-asked g c = asked_now _ _ _ _ _ c.now.ensures

pub returns-in_err-put-clause-asked : goal.returns-in_err-put-clause-asked
returns-in_err-put-clause-asked g c = asked_now _ _ _ _ _ c.now.ensures

pub returns-clause-asked : goal.returns-clause-asked
returns-clause-asked g c = asked_now _ _ _ _ _ c.now.ensures
