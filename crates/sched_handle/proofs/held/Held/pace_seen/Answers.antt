-- What is seen of a pace, which stays a pace.
use Rattle.std.proofs.Common.{refl}
use Rattle.sched_handle.proofs.held.Held.pace_seen.Goals as goal

pub returns-in-Pace : goal.returns-in-Pace
returns-in-Pace c = rw c.in-Pace.is (c.seen.new.self, refl, rw c.get.ensures.value c.seen.ensures)
