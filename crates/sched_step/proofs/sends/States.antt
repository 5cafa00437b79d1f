-- A state may go to another thread.
use denote.Param.Send.{IsSend, sendable}
use Rattle.std.proofs.Crossing.{crosses}
use Rattle.sched_step.specs.contracts.states.State as State
use Rattle.sched_step.proofs.sends.Trees.{tree_sends}

pub state_sends : IsSend State.the_row
state_sends = search (sendable, crosses, tree_sends) depth 40
