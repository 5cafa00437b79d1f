-- Comparing two values ends, since each call has smaller values; the items compared so far are equal.
use Rattle.std.proofs.Common.{◌≡◌, length, take}
use Rattle.sched_plan.specs.Datum.{items_of}
use Rattle.sched_plan.specs.DatumSize.{datum_size, items_size}
use Rattle.sched_plan.proofs.values.+same.Given as goal

abbrev pub decreases-Val::same : goal.decreases-Val::same
decreases-Val::same l = datum_size l.self.now

abbrev pub decreases-same_items : goal.decreases-same_items
decreases-same_items l = items_size (items_of l.items.now.items)

abbrev pub invariant-same_items-loop-at : goal.invariant-same_items-loop-at
invariant-same_items-loop-at l = record {
  same_length : length l.items.items ≡ length l.others.items;
  same_so_far : take l.at l.items.items ≡ take l.at l.others.items;
}
