-- A join keeps the quota's rule and the pass's invariant.
use Rattle.std.proofs.Common.{sym, ap, ◌∙◌, subst, arith}
use mathlib.Core.Option.{none}
use Rattle.atomic_table.specs.Table.{step}
use Rattle.sched_ticket_quota.specs.Held.{Name, Held}
use Rattle.sched_ticket_quota.specs.Steps.{Sat, IsSound}
use Rattle.sched_ticket_quota.proofs.Moves.{learns_ok}
use Rattle.sched_ticket_quota.proofs.Known.{joined_known}
use Rattle.sched_ticket_quota.proofs.Parts.{joins_ok}
use Rattle.sched_ticket_quota.proofs.pass.Pass.take_rest.Goals as goal

pub join_seat-requires : goal.join_seat-requires
join_seat-requires c =
    let known = c.quota.invariant in
    let counted = c.self.invariant in
    let table = sym (ap (λ (b : Name). b.table) c.quota.view_is) in (
      ap (λ (p : Held). p.table) c.self.view_is ∙ c.requires.this.0 ∙ table,
      ap (λ (p : Held). p.table) c.other.view_is ∙ c.requires.that.0 ∙ table,
      c.other.invariant.bare,
      omega arith,
      joins_ok _ _ _ _ _ (omega arith),
    )

pub load-requires : goal.load-requires
load-requires c =
    let known = c.quota.invariant in
    let joined = c.join_seat.ensures in (
      joined.0 ∙ ap (λ (p : Held). p.table) c.self.view_is ∙ c.requires.this.0
          ∙ sym (ap (λ (b : Name). b.table) c.quota.view_is),
      omega arith,
      learns_ok _ _ _ _ (step 0 8 0 0 none),
    )

pub invariant_of-self : goal.invariant_of-self
invariant_of-self c =
    let learnt = c.load.ensures.2 in
    joined_known c.self.inside.seat.me c.other.inside.seat.me c.load.new.seat.me _ _ _ _ _ _ _ _ _ _ _ _ _
    c.self.invariant c.other.invariant
    (learnt.0 ∙ c.join_seat.ensures.2) (subst (λ (m : Sat). IsSound m.0) (sym learnt.0) learnt.1)
    c.max-self-inside.ensures
