-- One of the numbers is at hand or out, or may be forgotten; or none is.
use Rattle.std.proofs.Common.{inr, subst}
use Rattle.std.specs.Prelude.{MatchBool}
use Rattle.sched_ticket_lease.specs.Spans.{HasSome, HasNone}
use Rattle.sched_ticket_lease.specs.Holders.{Holder, IsHeld, IsFree}
use Rattle.sched_ticket_lease.proofs.Answered.{match-as}
use Rattle.sched_ticket_lease.proofs.leased.Leased.overlaps.Goals as goal

pub returns : goal.returns
returns c =
    let a = c.args.first in
    let b = c.args.end in
    subst (λ (h : Holder). MatchBool c.overlaps-2.result (IsHeld h a b) (IsFree h a b)) c.self.view_is
    (match-as c.overlaps-2.result (HasSome c.self.inside.out a b) (HasNone c.self.inside.out a b) _ _
    c.overlaps-2.ensures
    (λ some. (c.if-first-end.false, inr (inr some)))
    (λ none. record {
      above = λ _. c.if-first-self.false;
      at_hand = c.if-overlaps.ensures;
      out = none;
    }))
