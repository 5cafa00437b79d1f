-- A driver may go to another thread.
use denote.Param.Send.{IsSend, sendable}
use Rattle.std.proofs.Crossing.{crosses}
use Rattle.sched_plan.proofs.sends.Events.{event_sends}
use Rattle.sched_driver_tree.proofs.Sends.{stepper_sends}
use Rattle.sched_driver.specs.contracts.drivers.Driver as Driver

pub driver_sends : IsSend Driver.the_row
driver_sends = search (sendable, crosses, event_sends, stepper_sends) depth 60
