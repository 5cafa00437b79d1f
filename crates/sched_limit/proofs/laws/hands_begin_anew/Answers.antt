-- What a breaker does that somebody opened or closed by hand.
use Rattle.sched_limit.proofs.ByHand.{opens_by_hand, closes_by_hand}
use Rattle.sched_limit.proofs.laws.hands_begin_anew.Goals as goal

pub returns-clause-opens : goal.returns-clause-opens
returns-clause-opens c = opens_by_hand

pub returns-clause-closes : goal.returns-clause-closes
returns-clause-closes c = closes_by_hand
