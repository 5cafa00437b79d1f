-- A stepper may go to another thread.
use denote.Param.Send.{IsSend, sendable}
use Rattle.std.proofs.Crossing.{crosses}
use Rattle.sched_plan.proofs.shares.SharedPlans.{shared_plan_sends}
use Rattle.sched_plan.proofs.sends.Events.{answer_sends}
use Rattle.sched_step.proofs.sends.States.{state_sends}
use Rattle.sched_driver_tree.specs.contracts.trees.TreeStepper as TreeStepper

pub stepper_sends : IsSend TreeStepper.the_row
stepper_sends = search (sendable, crosses, shared_plan_sends, answer_sends, state_sends) depth 60
