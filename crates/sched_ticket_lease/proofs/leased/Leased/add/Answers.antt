-- The numbers were free, and are at hand.
use Rattle.std.proofs.Common.{inl, inr, refl, sym, ap, subst, arith, lt_of_not-le}
use mathlib.Core.Logic.{dite}
use native.Mathlib.Decide.{dec_le}
use Rattle.sched_ticket.specs.Lists.{is}
use Rattle.sched_ticket_lease.specs.Spans.{weight}
use Rattle.sched_ticket_lease.specs.Holders.{Holder, IsFree}
use Rattle.sched_ticket_lease.proofs.TakenOnce.{between-one, between-out}
use Rattle.sched_ticket_lease.proofs.leased.Leased.add.Goals as goal

pub invariant_of-self : goal.invariant_of-self
invariant_of-self c = record {
  once = λ n.
      let before = c.self.invariant.once n in
      let more = c.in-Ok.ensures.ok (is n) in
      let at-hand = ap (λ (h : Holder). weight (is n) h.at_hand) c.self.view_is in
      let out = ap (λ (h : Holder). weight (is n) h.out) c.self.view_is in
      let free : IsFree c.args.self.now c.args.first c.args.end = c.if-overlaps.ensures in
      dite (dec_le c.args.first n)
      (λ low. dite (dec_le c.args.end n)
      (λ high. omega (arith, between-out n c.args.first c.args.end (inr high)))
      (λ not. omega (
        arith,
        between-one n c.args.first c.args.end,
        free.at_hand n low (lt_of_not-le not),
        free.out n low (lt_of_not-le not),
      )))
      (λ not. omega (arith, between-out n c.args.first c.args.end (inl (lt_of_not-le not))));
  few = c.self.invariant.few;
}

pub returns-in-Ok-clause-ok : goal.returns-in-Ok-clause-ok
returns-in-Ok-clause-ok c = rw (← c.self.view_is) (record {
  held = inl (
    refl,
    record {
      at_hand_is = c.in-Ok.ensures.ok;
      out_is = refl;
      floor_is = refl;
      ends_is = c.earlier-self-inside.ensures;
      free = subst (λ (h : Holder). IsFree h c.args.first c.args.end) (sym c.self.view_is) c.if-overlaps.ensures;
    },
  );
  window_is = refl;
  ask_at = refl;
  drawn = refl;
  requests = refl;
})
