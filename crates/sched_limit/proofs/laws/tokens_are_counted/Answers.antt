-- The tokens that were taken and lost are those that a bucket began with, what came in, less what is left.
use Rattle.sched_limit.proofs.Buckets.{level_stays_within, tokens_are_counted, grants_leave_the_floor}
use Rattle.sched_limit.proofs.Buckets.{draws_come_back_once}
use Rattle.sched_limit.proofs.laws.tokens_are_counted.Goals as goal

pub returns-clause-within : goal.returns-clause-within
returns-clause-within c = level_stays_within

pub returns-clause-counted : goal.returns-clause-counted
returns-clause-counted c = tokens_are_counted

pub returns-clause-floor : goal.returns-clause-floor
returns-clause-floor c = grants_leave_the_floor

pub returns-clause-once : goal.returns-clause-once
returns-clause-once c = draws_come_back_once
