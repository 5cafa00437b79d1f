-- One of its spans meets these numbers, or each is apart from them.
use Rattle.std.proofs.Common.{ℕ, ◌<◌, length, List, ap, arith}
use Rattle.std.specs.Prelude.{All, HoldsAt}
use Rattle.sched_ticket.specs.Lists.{is}
use Rattle.sched_ticket_lease.specs.Spans.{weight, IsApart, Meets, HasSome, HasNone}
use Rattle.sched_ticket_lease.specs.declared.span.Span.{Span}
use Rattle.sched_ticket_lease.proofs.Answered.{match-as, match-found}
use Rattle.sched_ticket_lease.proofs.Weights.{all-apart, some-meets}
use Rattle.sched_ticket_lease.proofs.spans.Spans.overlaps.Goals as goal

pub returns : goal.returns
returns c =
    let a = c.args.first in
    let b = c.args.end in
    let spans = c.deref.result.now in
    let same = λ (q : ℕ → ℕ). ap (λ (xs : List Span). weight q xs) c.deref.ensures.value in
    let seen = λ (q : ℕ → ℕ). ap (λ (xs : List Span). weight q xs) c.self.view_is in
    rw c.is_some.ensures (match-as _ _ _ (HasSome c.args.self.now a b) (HasNone c.args.self.now a b)
    (match-found c.place_meeting.result
    (λ at. (at < length spans) × HoldsAt (λ s. Meets s a b) spans at) (All (λ s. IsApart s a b) spans)
    c.place_meeting.ensures.some c.place_meeting.ensures.none)
    (λ found.
    let some = some-meets spans a b found.0 c.requires found.1.0 found.1.1 in
    (some.0, some.1, some.2, omega (arith, some.3, same (is some.0), seen (is some.0))))
    (λ apart n low high. omega (arith, all-apart spans a b apart n low high, same (is n), seen (is n))))
