-- A draw of a pass by parts keeps the budget's rule, whether it wins a number or finds none.
use Rattle.std.proofs.Common.{sym, ap, ◌∙◌, arith}
use mathlib.Core.Option.{none}
use Rattle.atomic_table.specs.Table.{step}
use Rattle.sched_ticket.specs.Held.{Name}
use Rattle.sched_ticket.specs.declared.view.View.{View}
use Rattle.sched_ticket.proofs.Moves.{finds_ok, wins_ok}
use Rattle.sched_ticket.proofs.pass.win.Goals as goal

pub load-drawn-requires : goal.load-drawn-requires
load-drawn-requires c =
    let known = c.budget.invariant in (
      c.requires.of.0 ∙ sym (ap (λ (b : Name). b.table) c.budget.view_is),
      omega arith,
      finds_ok _ _ _ _ (step 0 0 0 0 none) c.requires.live c.requires.by_parts,
    )

pub compare_exchange-found-requires : goal.compare_exchange-found-requires
compare_exchange-found-requires c =
    let known = c.budget.invariant in
    let before = c.loop-drawn.invariant in
    let found = before.below (omega arith) in (
      before.of.0 ∙ c.requires.of.0 ∙ sym (ap (λ (b : Name). b.table) c.budget.view_is),
      omega arith,
      wins_ok _ _ _ _ (step 0 0 _ _ none) (omega (arith, ap (λ (v : View). v.weight) found))
          (ap (λ (v : View). v.terms.by_parts) found ∙ c.requires.by_parts)
          (sym (ap (λ (v : View). v.found) found)) (omega (arith, ap (λ (v : View). v.found) found))
          (omega (arith, ap (λ (v : View). v.found) found, ap (λ (v : View). v.floor) found)),
    )
