-- From the place on, the most calls and the first window with them.
use Rattle.std.proofs.Common.{◌≡◌, ◌≤◌, length, drop}
use Rattle.sched_storm_report.specs.Report.{most_in, first_with}
use Rattle.sched_storm_report.proofs.report.most_calls.Given as goal

abbrev pub invariant-loop-place : goal.invariant-loop-place
invariant-loop-place l = record {
  place : l.place ≤ length l.windows;
  most : l.most ≡ most_in (drop l.place l.windows);
  from : l.from ≡ first_with l.most (drop l.place l.windows);
}

abbrev pub decreases-loop-place : goal.decreases-loop-place
decreases-loop-place l = l.place
