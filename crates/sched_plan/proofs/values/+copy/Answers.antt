-- A copy of a list calls for copies of smaller values alone.
use Rattle.std.proofs.Common.{arith}
use Rattle.sched_plan.proofs.Items.{visited_smaller}
use Rattle.sched_plan.proofs.values.+copy.Goals as goal

pub copy_items-copy-requires : goal.copy_items-copy-requires
copy_items-copy-requires t c = (
  omega (
    arith,
    c.decreases,
    visited_smaller _ _ _ _ c.deref-item-items.ensures.value c.loop-item-test.true c.item-item.is,
  ),
  tt,
)
