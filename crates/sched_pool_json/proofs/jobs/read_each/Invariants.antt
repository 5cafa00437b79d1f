-- The jobs read so far are those that the items before this one spell.
use Rattle.std.proofs.Common.{◌≡◌, length, drop}
use Rattle.serde_json.specs.View.{items_view}
use Rattle.sched_pool_json.specs.JobsOf.{job_in}
use Rattle.sched_pool_json.proofs.Steps.{GoesOn}
use Rattle.sched_pool_json.proofs.jobs.read_each.Given as goal

abbrev pub invariant-loop-item : goal.invariant-loop-item
invariant-loop-item l = record {
  goes_on : GoesOn job_in (items_view l.items) (items_view (drop l.item-index l.items)) l.jobs.items;
  len : length l.jobs.items ≡ l.item-index;
}
