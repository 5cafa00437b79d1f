-- No moment before the earlier one is enough, and the later one is.
use Rattle.std.proofs.Common.{ℕ, ◌-◌, ◌<◌, ◌≤◌}
use Rattle.sched_storm.specs.Calls.{can_be_done}
use Rattle.sched_storm.proofs.storm.Storm.done_at.Given as goal

abbrev pub invariant-loop-early : goal.invariant-loop-early
invariant-loop-early l = record {
  order : l.early ≤ l.late;
  from : l.fn.from ≤ l.early;
  near : l.late ≤ l.fn.to;
  done : l.units ≤ can_be_done l.self l.late;
  before : (k : ℕ) → k < l.early → can_be_done l.self k < l.units;
}

abbrev pub decreases-loop-early : goal.decreases-loop-early
decreases-loop-early l = l.late - l.early
