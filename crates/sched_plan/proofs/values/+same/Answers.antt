-- Comparing two values says whether they are equal, item by item in lists.
use Rattle.std.proofs.Common.{arith, ap, sym, ◌∙◌}
use Rattle.sched_plan.specs.Datum.{list, items_of}
use Rattle.sched_plan.specs.Val.{datum_of}
use Rattle.sched_plan.proofs.Items.{visited_smaller, list_values_agree}
use Rattle.sched_plan.proofs.values.+same.Goals as goal

pub Val::same-returns-in-List-List : goal.Val::same-returns-in-List-List
Val::same-returns-in-List-List t c =
    let a = ap datum_of c.in-List-List.is-0 in
    let b = ap datum_of c.in-List-List.is-1 in (
      λ h. let e = ap items_of (c.same_items.ensures.0 h) in
          sym c.self.view_is ∙ a ∙ ap list e ∙ sym b ∙ c.other.view_is,
      λ e. c.same_items.ensures.1 (list_values_agree _ _ _ _ (sym a ∙ c.self.view_is) (sym b ∙ c.other.view_is) e),
    )

pub same_items-same-requires : goal.same_items-same-requires
same_items-same-requires t c = (
  omega (
    arith,
    c.decreases,
    visited_smaller _ _ _ _ c.deref-item-items.ensures.value c.loop-at-test.true c.item-item.is,
  ),
  tt,
)
