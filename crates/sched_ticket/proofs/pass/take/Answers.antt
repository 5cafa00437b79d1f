-- A draw of a counted pass keeps the budget's rule.
use Rattle.std.proofs.Common.{sym, ap, ◌∙◌, arith}
use mathlib.Core.Option.{none}
use Rattle.atomic_table.specs.Table.{step}
use Rattle.sched_ticket.specs.Held.{Name}
use Rattle.sched_ticket.proofs.Moves.{draws_ok}
use Rattle.sched_ticket.proofs.pass.take.Goals as goal

pub fetch_add-number-requires : goal.fetch_add-number-requires
fetch_add-number-requires c =
    let known = c.budget.invariant in (
      c.requires.of.0 ∙ sym (ap (λ (b : Name). b.table) c.budget.view_is),
      omega arith,
      draws_ok _ _ _ _ (step 0 0 1 0 none) c.requires.live c.requires.unrefused c.requires.counted,
    )
