-- A ticket that goes back to the quota keeps its rule.
use Rattle.std.proofs.Common.{sym, ap, ◌∙◌, arith}
use mathlib.Core.Option.{none}
use Rattle.atomic_table.specs.Table.{step}
use Rattle.sched_ticket_quota.specs.Held.{Name}
use Rattle.sched_ticket_quota.specs.declared.view.View.{View}
use Rattle.sched_ticket_quota.proofs.Moves.{asks_ok}
use Rattle.sched_ticket_quota.proofs.HandBacks.{returns_ok, lapses_ok}
use Rattle.sched_ticket_quota.proofs.pass.give_back.Goals as goal

pub load-back-requires : goal.load-back-requires
load-back-requires c =
    let known = c.quota.invariant in (
      c.requires.of.0 ∙ sym (ap (λ (b : Name). b.table) c.quota.view_is),
      omega arith,
      asks_ok _ _ _ _ (step 0 9 0 0 none),
    )

pub load-requires : goal.load-requires
load-requires c =
    let known = c.quota.invariant in
    let before = c.loop.invariant in (
      before.of.0 ∙ c.requires.of.0 ∙ sym (ap (λ (b : Name). b.table) c.quota.view_is),
      omega arith,
      lapses_ok _ _ _ _ (step 0 9 0 0 none) (omega (arith, ap (λ (v : View). v.weight) before.same)),
    )

pub compare_exchange-found-requires : goal.compare_exchange-found-requires
compare_exchange-found-requires c =
    let known = c.quota.invariant in
    let before = c.loop.invariant in
    let has = c.requires.has in (
      before.of.0 ∙ c.requires.of.0 ∙ sym (ap (λ (b : Name). b.table) c.quota.view_is),
      omega arith,
      returns_ok _ _ _ _ (step 0 9 _ _ none) c.args.ticket has.0
          (omega (arith, ap (λ (v : View). v.weight) before.same))
          (ap (λ (v : View). v.tickets) before.same ∙ has.1) (sym before.back_is) (omega arith) (omega arith),
    )
