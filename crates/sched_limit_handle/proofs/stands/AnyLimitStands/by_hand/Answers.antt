-- A breaker is opened or closed, and stays a breaker.
use Rattle.std.proofs.Common.{refl}
use Rattle.sched_limit_handle.proofs.stands.AnyLimitStands.by_hand.Goals as goal

pub returns-in-Breaker-clause-does : goal.returns-in-Breaker-clause-does
returns-in-Breaker-clause-does c = rw c.in-Breaker.is (c.by_hand.new.self, refl, c.by_hand.ensures)
