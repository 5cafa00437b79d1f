-- A pace that takes stays a pace.
use Rattle.std.proofs.Common.{refl}
use Rattle.sched_handle.proofs.held.Held.pace_take.Goals as goal

pub returns-in-Pace : goal.returns-in-Pace
returns-in-Pace c = rw c.in-Pace.is (c.take.new.self, refl, c.take.ensures)
