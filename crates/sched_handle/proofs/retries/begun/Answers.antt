-- A retry is made of a stepper that has made no step and of a pass that is split off.
use Rattle.sched_handle.specs.Retries.{IsFresh}
use Rattle.sched_handle.proofs.retries.begun.Goals as goal

pub returns : goal.returns
returns c =
    let part = c.in_ok-part in
    let fresh : IsFresh c.args.stepper.plan c.args.deadline part.part c.within.result.value =
    rw c.within.ensures c.fresh.ensures in
    (part.part, part.ensures.ok, fresh)
