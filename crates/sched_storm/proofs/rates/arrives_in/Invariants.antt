-- What is left comes in the phases that are left, from where the one before them ends.
use Rattle.std.proofs.Common.{◌≡◌, ◌≤◌, drop}
use Rattle.sched_storm.specs.Rates.{AreInOrder, arrives}
use Rattle.sched_storm.proofs.rates.arrives_in.Given as goal

abbrev pub invariant-loop-phase : goal.invariant-loop-phase
invariant-loop-phase l = record {
  same : arrives l.rate 0 l.phases l.number ≡ arrives l.rate l.from (drop l.phase-index l.phases) l.left;
  order : AreInOrder l.from (drop l.phase-index l.phases);
  near : l.from ≤ 3600000;
  few : l.left ≤ 1048576000;
}
