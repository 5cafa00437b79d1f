-- A pace that is split stays a pace.
use Rattle.std.proofs.Common.{refl}
use Rattle.sched_handle.proofs.held.Held.pace_split.Goals as goal

pub returns-in-Pace : goal.returns-in-Pace
returns-in-Pace c = rw c.in-Pace.is (c.split_off.new.pass, refl, c.split_off.ensures)
