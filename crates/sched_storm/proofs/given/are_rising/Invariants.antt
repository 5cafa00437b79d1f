-- All moments rise exactly where those that are left do, from the one before them on.
use Rattle.std.proofs.Common.{◌↔◌, drop}
use Rattle.sched_storm.specs.Arrivals.{AreRising}
use Rattle.sched_storm.proofs.given.are_rising.Given as goal

abbrev pub invariant-loop-moment : goal.invariant-loop-moment
invariant-loop-moment l = AreRising 0 l.moments ↔ AreRising l.from (drop l.moment-index l.moments)
