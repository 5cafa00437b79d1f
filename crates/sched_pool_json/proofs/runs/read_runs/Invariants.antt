-- The runs read so far are those that the items before this one spell.
use Rattle.std.proofs.Common.{◌≡◌, length, drop}
use Rattle.serde_json.specs.View.{items_view}
use Rattle.sched_pool_json.specs.JobsOf.{run_in}
use Rattle.sched_pool_json.proofs.Steps.{GoesOn}
use Rattle.sched_pool_json.proofs.runs.read_runs.Given as goal

abbrev pub invariant-loop-item : goal.invariant-loop-item
invariant-loop-item l = record {
  goes_on : GoesOn run_in (items_view l.items) (items_view (drop l.item-index l.items)) l.runs.items;
  len : length l.runs.items ≡ l.item-index;
}
