-- Writing a value ends, since each call has a smaller value; the loop has written the items so far.
use Rattle.std.proofs.Common.{◌≡◌, ◌++◌, drop, cond, nat_eq, string_bytes}
use Rattle.sched_plan.specs.Datum.{items_of}
use Rattle.sched_plan.specs.DatumSize.{datum_size, items_size}
use Rattle.sched_plan.specs.DatumText.{items_text, more_text}
use Rattle.sched_plan.proofs.values.+text.Given as goal

abbrev pub decreases-Val::write_to : goal.decreases-Val::write_to
decreases-Val::write_to l = datum_size l.self.now

abbrev pub decreases-write_items : goal.decreases-write_items
decreases-write_items l = items_size (items_of l.items.now.items)

-- what is written so far and the text of the rest are the text of all
abbrev pub invariant-write_items-loop-at : goal.invariant-write_items-loop-at
invariant-write_items-loop-at l =
    let rest = items_of (drop l.at l.items.items) in
    string_bytes l.out ++ cond (nat_eq l.at 0) (items_text rest) (more_text rest) ≡
    string_bytes l.fn.out ++ items_text (items_of l.items.items)
