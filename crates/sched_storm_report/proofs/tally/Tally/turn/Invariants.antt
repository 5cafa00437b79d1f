-- What the tally was told stands while windows end, and none ends that is not over.
use Rattle.std.proofs.Common.{◌≡◌, ◌+◌, ◌-◌, ◌≤◌, List}
use Rattle.sched_storm_report.specs.Told.{Stands}
use Rattle.sched_storm_report.specs.declared.moments.Moment.{Moment}
use Rattle.sched_storm_report.proofs.tally.Tally.turn.Given as goal

abbrev pub invariant-loop-self : goal.invariant-loop-self
invariant-loop-self l = record {
  stands : (told : List Moment) → Stands l.fn.peer told l.fn.self → Stands l.fn.peer told l.self;
  from : l.self.from ≤ l.at;
  window : l.self.window ≡ l.fn.self.window;
  said : l.self.said ≡ l.fn.self.said;
}

abbrev pub decreases-loop-self : goal.decreases-loop-self
decreases-loop-self l = l.at + 1 - l.self.from
