-- If the rest are the ends of the jobs that were read, all are.
use Rattle.std.proofs.Common.{◌≡◌, length, drop}
use Rattle.sched_pool_scripted.specs.Ends.{AreEndsOf}
use Rattle.sched_pool_scripted.proofs.ends.are_ends_of.Given as goal

-- once the rest are, all are
abbrev pub invariant-loop-at : goal.invariant-loop-at
invariant-loop-at l = record {
  same_length : length l.jobs ≡ length l.ends;
  rest : AreEndsOf (drop l.at l.jobs) (drop l.at l.ends) → AreEndsOf l.jobs l.ends;
}
