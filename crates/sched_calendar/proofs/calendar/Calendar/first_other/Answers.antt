-- The top of the heap is the least of it.
use Rattle.std.proofs.Common.{refl, arith}
use Rattle.std.specs.BinaryHeap.{heap_items}
use Rattle.sched_calendar.proofs.Least.{least_top}
use Rattle.sched_calendar.proofs.calendar.Calendar.first_other.Goals as goal

pub returns : goal.returns
returns c =
    let xs = heap_items c.args.self.now.others in
    let some = c.in_ok-key.ensures.variant.0 refl in
    least_top xs c.in_ok-key.field-0.now (omega arith) c.in_ok-key.ensures.lookup
    (c.in_ok-key.ensures.greatest c.args.self.now.in_order)
