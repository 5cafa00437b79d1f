-- From the place on, whether all windows pass and have requests, and from when on the storm has recovered.
use Rattle.std.proofs.Common.{◌≡◌, ◌≤◌, length, drop}
use Rattle.sched_storm_report.specs.Report.{all_pass, have_requests, recovered_in}
use Rattle.sched_storm_report.proofs.report.recovered.Given as goal

abbrev pub invariant-loop-place : goal.invariant-loop-place
invariant-loop-place l = record {
  place : l.place ≤ length l.windows;
  pass : l.all_pass ≡ all_pass (drop l.place l.windows);
  requests : l.have_requests ≡ have_requests (drop l.place l.windows);
  from : l.from ≡ recovered_in l.end (drop l.place l.windows);
}

abbrev pub decreases-loop-place : goal.decreases-loop-place
decreases-loop-place l = l.place
