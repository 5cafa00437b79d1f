-- Events and answers may go to another thread.
use denote.Param.Send.{IsSend, sendable}
use Rattle.std.proofs.Crossing.{crosses}
use Rattle.sched_plan.specs.contracts.history.Event as Event
use Rattle.sched_plan.specs.contracts.history.Answer as Answer
use Rattle.sched_plan.proofs.sends.Values.{val_sends}

pub event_sends : IsSend Event.the_row
event_sends = search (sendable, crosses, val_sends) depth 40

pub answer_sends : IsSend Answer.the_row
answer_sends = search (sendable, crosses, val_sends) depth 40
