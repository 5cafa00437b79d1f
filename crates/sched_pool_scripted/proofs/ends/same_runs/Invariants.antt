-- The runs compared so far are the same.
use Rattle.std.proofs.Common.{◌≡◌, length, take}
use Rattle.sched_pool_scripted.proofs.ends.same_runs.Given as goal

abbrev pub invariant-loop-at : goal.invariant-loop-at
invariant-loop-at l = record {
  same_length : length l.runs ≡ length l.others;
  same_so_far : take l.at l.runs ≡ take l.at l.others;
}
