-- What a node keeps may go to another thread.
use denote.Param.Send.{IsSend, sendable}
use Rattle.std.proofs.Crossing.{crosses}
use Rattle.sched_plan.proofs.sends.Values.{val_sends}
use Rattle.sched_step.specs.contracts.lists.Listed as Listed
use Rattle.sched_step.specs.contracts.kept.Kept as Kept

listed_sends : IsSend Listed.the_row
listed_sends = search (sendable, crosses, val_sends) depth 40

pub kept_sends : IsSend Kept.the_row
kept_sends = search (sendable, crosses, listed_sends) depth 40
