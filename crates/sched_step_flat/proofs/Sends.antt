-- A record may go to another thread.
use denote.Param.Send.{IsSend, sendable}
use Rattle.std.proofs.Crossing.{crosses}
use Rattle.sched_step_flat.specs.contracts.records.Record as Record

pub record_sends : IsSend Record.the_row
record_sends = search (sendable, crosses) depth 60
