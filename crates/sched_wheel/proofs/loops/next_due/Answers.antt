-- The clock was asked once, whichever task is due next.
use Rattle.sched_wheel.proofs.Polls.{asked_now}
use Rattle.sched_wheel.proofs.loops.next_due.Goals as goal

pub returns-in_err-reach-clause-asked : goal.returns-in_err-reach-clause-asked
returns-in_err-reach-clause-asked g c = asked_now _ _ _ _ _ c.now.ensures

pub returns-in_err-wait-in-Some-due-clause-asked : goal.returns-in_err-wait-in-Some-due-clause-asked
returns-in_err-wait-in-Some-due-clause-asked g c = asked_now _ _ _ _ _ c.loop-number.invariant.1

pub returns-in_default-due-clause-asked : goal.returns-in_default-due-clause-asked
returns-in_default-due-clause-asked g c = asked_now _ _ _ _ _ c.loop-number.invariant.1

pub returns-in_default-due-2-clause-asked : goal.returns-in_default-due-2-clause-asked
returns-in_default-due-2-clause-asked g c = asked_now _ _ _ _ _ c.loop-number.invariant.1

pub returns-clause-asked : goal.returns-clause-asked
returns-clause-asked g c = asked_now _ _ _ _ _ c.loop-number.invariant.1
