-- A counted split keeps the budget's rule.
use Rattle.std.proofs.Common.{◌≡◌, false, sym, ap, ◌∙◌, arith}
use mathlib.Core.Option.{none}
use Rattle.atomic_table.specs.Table.{step}
use Rattle.sched_ticket.specs.Steps.{Sat}
use Rattle.sched_ticket.specs.Held.{Name, Held}
use Rattle.std.proofs.Common.{length}
use Rattle.sched_ticket.specs.declared.view.Terms.{Terms}
use Rattle.sched_ticket.proofs.Ways.{given-one, used_up-counted}
use Rattle.sched_ticket.proofs.Moves.{counts_ok, splits_ok}
use Rattle.sched_ticket.proofs.pass.Pass.split_counted.Goals as goal

pub fetch_add-made-requires : goal.fetch_add-made-requires
fetch_add-made-requires c =
    let known = c.budget.invariant in
    let counted = c.self.invariant in (
      ap (λ (p : Held). p.table) c.self.view_is ∙ c.requires.of.0 ∙ sym (ap (λ (b : Name). b.table) c.budget.view_is),
      omega arith,
      counts_ok _ _ _ _ (step 0 16 1 0 none) (omega arith) (omega arith)
          (ap (λ (p : Held). p.has.terms.by_parts) c.self.view_is ∙ ap (λ (k : Terms). k.by_parts) c.requires.of.1
          ∙ c.requires.counted),
    )

pub split_seat-seat-requires : goal.split_seat-seat-requires
split_seat-seat-requires c =
    let known = c.budget.invariant in
    let counted = c.self.invariant in
    let made = c.fetch_add-made.ensures in
    let heavy = made.2.0 (omega arith) in
    let by = ap (λ (p : Held). p.has.terms.by_parts) c.self.view_is ∙ ap (λ (k : Terms). k.by_parts) c.requires.of.1
    ∙ c.requires.counted in
    let after = c.fetch_add-made.new.seat.me.0 in
    let now : after.terms.by_parts ≡ false = ap (λ (m : Sat). m.0.terms.by_parts) heavy ∙ by in
    let weight = ap (λ (m : Sat). m.0.weight) heavy in
    let one = given-one after now in (
      made.0 ∙ ap (λ (p : Held). p.table) c.self.view_is ∙ c.requires.of.0
          ∙ sym (ap (λ (b : Name). b.table) c.budget.view_is),
      omega arith,
      splits_ok _ _ _ (omega arith) (omega arith)
          (omega (
            arith,
            ap length (used_up-counted after now),
            ap length (used_up-counted c.self.inside.seat.me.0 by),
            ap (λ (m : Sat). length m.0.refusals) heavy,
          ))
          (omega (arith, ap (λ (m : Sat). m.0.refused_splits) heavy))
          (λ sole. counted.unsole (sym (ap (λ (m : Sat). m.0.mark) heavy) ∙ sole)),
    )
