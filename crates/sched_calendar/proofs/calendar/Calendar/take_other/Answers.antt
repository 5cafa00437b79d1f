-- The top of the heap is taken.
use Rattle.std.proofs.Common.{arith}
use Rattle.std.specs.BinaryHeap.{heap_items}
use Rattle.sched_calendar.proofs.Least.{taken_top}
use Rattle.sched_calendar.proofs.calendar.Calendar.take_other.Goals as goal

pub returns : goal.returns
returns c = λ k.
    let taken = taken_top (heap_items c.args.self.now.others) (heap_items c.pop.new.self) c.pop.result c.args.key
    c.pop.ensures.permutation c.pop.ensures.top c.pop.ensures.heap_order c.args.self.now.in_order
    (λ some. c.pop.ensures.variant.1 (omega (arith, c.args.self.now.others.data.ok))) c.requires k in
    omega arith
