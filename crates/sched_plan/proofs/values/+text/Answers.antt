-- The text of a list calls for the texts of smaller values alone.
use Rattle.std.proofs.Common.{arith}
use Rattle.sched_plan.proofs.Items.{visited_smaller}
use Rattle.sched_plan.proofs.values.+text.Goals as goal

pub write_items-write_to-requires : goal.write_items-write_to-requires
write_items-write_to-requires t c = (
  omega (
    arith,
    c.decreases,
    visited_smaller _ _ _ _ c.deref-item-items.ensures.value c.loop-at-test.true c.item-item.is,
  ),
  tt,
)
