-- Reading the limit keeps the budget's rule.
use Rattle.std.proofs.Common.{sym, ap, ◌∙◌, arith}
use mathlib.Core.Option.{none}
use Rattle.atomic_table.specs.Table.{step}
use Rattle.sched_ticket.specs.Held.{Name}
use Rattle.sched_ticket.proofs.Moves.{reads_limit_ok}
use Rattle.sched_ticket.proofs.pass.limit_now.Goals as goal

pub load-requires : goal.load-requires
load-requires c =
    let known = c.budget.invariant in
    let of = c.requires.of in (
      of.0 ∙ sym (ap (λ (b : Name). b.table) c.budget.view_is),
      omega arith,
      reads_limit_ok _ _ _ _ (step 0 32 0 0 none) c.requires.live
          (of.1 ∙ sym (ap (λ (b : Name). b.terms) c.budget.view_is) ∙ sym known.about_is),
    )
