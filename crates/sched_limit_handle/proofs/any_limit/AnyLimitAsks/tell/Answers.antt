-- What a request tells is told to each kind of limit.
use Rattle.std.proofs.Common.{refl}
use Rattle.sched_limit_handle.proofs.any_limit.AnyLimitAsks.tell.Goals as goal

pub returns-in-Adaptive : goal.returns-in-Adaptive
returns-in-Adaptive c = rw c.in-Adaptive.is (c.by_kind-in-Adaptive.new.limit, refl, c.by_kind-in-Adaptive.ensures)

pub returns-in-Breaker : goal.returns-in-Breaker
returns-in-Breaker c = rw c.in-Breaker.is (c.by_kind-in-Breaker.new.limit, refl, c.by_kind-in-Breaker.ensures)

pub returns-in-Throttle : goal.returns-in-Throttle
returns-in-Throttle c = rw c.in-Throttle.is (c.by_kind-in-Throttle.new.limit, refl, c.by_kind-in-Throttle.ensures)
