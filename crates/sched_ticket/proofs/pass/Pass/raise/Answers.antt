-- Raising the limit keeps the budget's rule.
use Rattle.std.proofs.Common.{sym, ap, ◌∙◌, arith}
use mathlib.Core.Option.{none}
use Rattle.atomic_table.specs.Table.{step}
use Rattle.sched_ticket.specs.Held.{Name, Held}
use Rattle.sched_ticket.specs.declared.view.Terms.{Terms}
use Rattle.sched_ticket.proofs.Moves.{raises_ok}
use Rattle.sched_ticket.proofs.pass.Pass.raise.Goals as goal

pub fetch_max-before-requires : goal.fetch_max-before-requires
fetch_max-before-requires c =
    let known = c.budget.invariant in
    let counted = c.self.invariant in (
      ap (λ (p : Held). p.table) c.self.view_is ∙ c.requires.0 ∙ sym (ap (λ (b : Name). b.table) c.budget.view_is),
      omega arith,
      raises_ok _ _ _ _ (step 0 32 _ 0 none) (omega arith)
          (ap (λ (p : Held). p.has.terms) c.self.view_is ∙ c.requires.1
          ∙ sym (ap (λ (b : Name). b.terms) c.budget.view_is) ∙ sym known.about_is)
          (ap (λ (k : Terms). k.rises) known.about_is ∙ c.if-not-budget.false) (omega arith),
    )
