-- What the two threads take with them may go to another thread.
use denote.Param.Send.{sendable}
use Rattle.std.proofs.Crossing.{crosses}
use Rattle.sched_driver.proofs.Sends.{driver_sends}
use Rattle.sched_driver_tests.proofs.tests.driver.cells.two_threads_share_a_cell.Goals as goal

pub join-both-requires-send-F : goal.join-both-requires-send-F
join-both-requires-send-F = search (sendable, crosses, driver_sends) depth 60 fits 20000
