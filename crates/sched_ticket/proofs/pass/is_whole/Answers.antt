-- Reading how many passes were made keeps the budget's rule.
use Rattle.std.proofs.Common.{sym, ap, ◌∙◌, arith}
use mathlib.Core.Option.{none}
use Rattle.atomic_table.specs.Table.{step}
use Rattle.sched_ticket.specs.Held.{Name}
use Rattle.sched_ticket.proofs.Moves.{looks_ok}
use Rattle.sched_ticket.proofs.pass.is_whole.Goals as goal

pub load-requires : goal.load-requires
load-requires c =
    let known = c.budget.invariant in (
      c.requires.of.0 ∙ sym (ap (λ (b : Name). b.table) c.budget.view_is),
      omega arith,
      looks_ok _ _ _ _ (step 0 16 0 0 none) c.requires.live,
    )
