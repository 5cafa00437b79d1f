-- What is seen of each kind of limit.
use Rattle.std.proofs.Common.{refl}
use Rattle.sched_limit_handle.proofs.stands.AnyLimitStands.seen.Goals as goal

pub returns-in-Adaptive : goal.returns-in-Adaptive
returns-in-Adaptive c = rw c.in-Adaptive.is (c.seen-in-Adaptive.new.self, refl, c.seen-in-Adaptive.ensures)

pub returns-in-Breaker : goal.returns-in-Breaker
returns-in-Breaker c = rw c.in-Breaker.is (c.seen-in-Breaker.new.self, refl, c.seen-in-Breaker.ensures)

pub returns-in-Throttle : goal.returns-in-Throttle
returns-in-Throttle c = rw c.in-Throttle.is (c.seen-in-Throttle.new.self, refl, c.seen-in-Throttle.ensures)
