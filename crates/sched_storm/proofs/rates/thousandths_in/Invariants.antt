-- The sum so far, and what comes in the phases that are left.
use Rattle.std.proofs.Common.{◌≡◌, ◌+◌, ◌*◌, ◌≤◌, min, drop}
use Rattle.sched_storm.specs.Rates.{AreInOrder, thousandths_by}
use Rattle.sched_storm.proofs.rates.thousandths_in.Given as goal

abbrev pub invariant-loop-phase : goal.invariant-loop-phase
invariant-loop-phase l = record {
  same : thousandths_by l.rate 0 l.phases l.end
      ≡ l.sum + thousandths_by l.rate l.from (drop l.phase-index l.phases) l.end;
  order : AreInOrder l.from (drop l.phase-index l.phases);
  most : l.sum ≤ 1000000 * min l.from l.end;
}
