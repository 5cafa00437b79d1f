-- `replay` plays the events in order, and stops at the first that is refused.
use Rattle.std.proofs.lemmas.Result.{err_from_is_err_and}
use Rattle.sched_driver_stepper.proofs.Plays.{played_one, ends_early}
use Rattle.sched_driver_stepper.proofs.steppers.Stepper.replay.Goals as goal

pub returns-in_err-next-clause-refused : goal.returns-in_err-next-clause-refused
returns-in_err-next-clause-refused c = λ h was.
    let given = err_from_is_err_and c.from_residual.result c.from_residual.ensures.1 in
    rw (given.1, given.2)
    (ends_early c.args.self.now c.loop-event.self c.next.new.self c.args.events.now c.loop-event.event-index
    c.event-item.result c.in_err-next.field-0.0 h c.loop-event-test.true c.event-item.is c.loop-event.invariant
    c.in_err-next.ensures.unchanged c.in_err-next.ensures.refused was)

pub loop-event-preserved : goal.loop-event-preserved
loop-event-preserved c =
    played_one c.args.self.now c.loop-event.self c.next.new.self c.args.events.now c.loop-event.event-index
    c.event-item.result c.in_ok-next.field-0 c.loop-event-test.true c.event-item.is c.loop-event.invariant
    c.next.ensures.plan c.in_ok-next.ensures.law
