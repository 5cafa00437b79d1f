-- A pace that gives back stays a pace.
use Rattle.std.proofs.Common.{refl}
use Rattle.sched_handle.proofs.held.Held.pace_give_back.Goals as goal

pub returns-in-Pace : goal.returns-in-Pace
returns-in-Pace c = rw c.in-Pace.is (c.give_back.new.self, refl, c.give_back.ensures)
