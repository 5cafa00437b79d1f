-- Copying a value ends, since each call has a smaller value; the loop has copied the items so far.
use Rattle.std.proofs.Common.{◌≡◌, ◌+◌, ◌*◌, take}
use Rattle.sched_plan.specs.Datum.{items_of}
use Rattle.sched_plan.specs.DatumSize.{datum_size, items_size}
use Rattle.sched_plan.proofs.values.+copy.Given as goal

abbrev pub decreases-Val::copy : goal.decreases-Val::copy
decreases-Val::copy l = 2 * datum_size l.self.now

abbrev pub decreases-copy_both : goal.decreases-copy_both
decreases-copy_both l = 2 * (datum_size l.both.now.0 + datum_size l.both.now.1) + 1

abbrev pub decreases-copy_list : goal.decreases-copy_list
decreases-copy_list l = 2 * items_size (items_of l.items.now.items) + 1

abbrev pub decreases-copy_items : goal.decreases-copy_items
decreases-copy_items l = 2 * items_size (items_of l.items.now.items)

abbrev pub invariant-copy_items-loop-item : goal.invariant-copy_items-loop-item
invariant-copy_items-loop-item l = l.copies.items ≡ take l.item-index l.item-items
