-- A split by parts keeps the budget's rule.
use Rattle.std.proofs.Common.{sym, ap, ◌∙◌, length, arith}
use Rattle.sched_ticket.specs.Held.{Name, Held}
use Rattle.sched_ticket.specs.declared.view.Terms.{Terms}
use Rattle.sched_ticket.proofs.Ways.{part-some, given-parts, used_up-parts}
use Rattle.sched_ticket.proofs.Moves.{splits_ok}
use Rattle.sched_ticket.proofs.pass.Pass.split_parts.Goals as goal

pub split_seat-seat-requires : goal.split_seat-seat-requires
split_seat-seat-requires c =
    let known = c.budget.invariant in
    let counted = c.self.invariant in
    let me = c.self.inside.seat.me.0 in
    let by = ap (λ (p : Held). p.has.terms.by_parts) c.self.view_is ∙ ap (λ (k : Terms). k.by_parts) c.requires.of.1
    ∙ c.requires.by_parts in
    let some = part-some me.weight (omega arith) in
    let gives = given-parts me by in (
      ap (λ (p : Held). p.table) c.self.view_is ∙ c.requires.of.0 ∙ sym (ap (λ (b : Name). b.table) c.budget.view_is),
      omega arith,
      splits_ok _ _ _ (omega arith) (omega arith) (omega (arith, ap length (used_up-parts me by)))
          (omega (arith, counted.uncounted by)) counted.unsole,
    )
