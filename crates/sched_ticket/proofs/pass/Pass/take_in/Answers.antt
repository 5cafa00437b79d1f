-- A join keeps the budget's rule.
use Rattle.std.proofs.Common.{sym, ap, ◌∙◌, arith}
use mathlib.Core.Option.{none}
use Rattle.atomic_table.specs.Table.{step}
use Rattle.sched_ticket.specs.Steps.{Sat}
use Rattle.sched_ticket.specs.Held.{Name, Held}
use Rattle.sched_ticket.proofs.Moves.{joins_ok, learns_ok}
use Rattle.sched_ticket.proofs.pass.Pass.take_in.Goals as goal

pub join_seat-requires : goal.join_seat-requires
join_seat-requires c =
    let known = c.budget.invariant in
    let counted = c.self.invariant in
    let table = sym (ap (λ (b : Name). b.table) c.budget.view_is) in (
      ap (λ (p : Held). p.table) c.self.view_is ∙ c.requires.this.0 ∙ table,
      ap (λ (p : Held). p.table) c.other.view_is ∙ c.requires.that.0 ∙ table,
      c.other.invariant.bare,
      omega arith,
      joins_ok _ _ _ _ _ (omega arith),
    )

pub load-requires : goal.load-requires
load-requires c =
    let known = c.budget.invariant in
    let counted = c.self.invariant in
    let joined = c.join_seat.ensures in (
      joined.0 ∙ ap (λ (p : Held). p.table) c.self.view_is ∙ c.requires.this.0
          ∙ sym (ap (λ (b : Name). b.table) c.budget.view_is),
      omega arith,
      learns_ok _ _ _ _ (step 0 0 0 0 none) (omega (arith, ap (λ (m : Sat). m.0.weight) joined.2)),
    )
