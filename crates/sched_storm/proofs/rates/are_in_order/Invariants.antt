-- All phases are in order exactly where those that are left are, from where the one before them ends.
use Rattle.std.proofs.Common.{◌↔◌, drop}
use Rattle.sched_storm.specs.Rates.{AreInOrder}
use Rattle.sched_storm.proofs.rates.are_in_order.Given as goal

abbrev pub invariant-loop-phase : goal.invariant-loop-phase
invariant-loop-phase l = AreInOrder 0 l.phases ↔ AreInOrder l.from (drop l.phase-index l.phases)
