-- What is seen of a closed breaker.
use Rattle.sched_limit.proofs.LastResults.{closed_is_seen}
use Rattle.sched_limit.proofs.laws.what_is_seen_counts.Goals as goal

pub returns : goal.returns
returns c = closed_is_seen
