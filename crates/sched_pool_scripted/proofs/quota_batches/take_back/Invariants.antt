-- The rest were driven on the quota, and what is taken back is of the retries so far.
use Rattle.std.specs.Prelude.{All}
use Rattle.std.specs.Vec.Iter.{into_iter_items}
use Rattle.sched_pool_scripted.specs.Driven.{IsOnQuota}
use Rattle.sched_pool_scripted.specs.QuotaBatch.{AreTaken}
use Rattle.sched_pool_scripted.proofs.quota_batches.take_back.Given as goal

abbrev pub invariant-loop-retry : goal.invariant-loop-retry
invariant-loop-retry l = record {
  rest : All (IsOnQuota l.quota) (into_iter_items l.retry-iterator);
  taken : AreTaken l.quota l.back.ends.items l.back.pass l.back.windows.items;
}
