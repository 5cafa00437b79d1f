-- There is a station for each worker so far.
use Rattle.std.proofs.Common.{◌≡◌, vec_len}
use Rattle.sched_pool_scripted.proofs.batches.stations.Given as goal

abbrev pub invariant-loop-worker : goal.invariant-loop-worker
invariant-loop-worker l = vec_len l.stations ≡ l._worker
