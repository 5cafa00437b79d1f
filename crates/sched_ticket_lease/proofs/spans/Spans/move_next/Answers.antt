-- The first number of the last span leaves it.
use Rattle.std.proofs.Common.{◌<◌, List, ap, arith}
use Rattle.sched_ticket_lease.specs.Spans.{weight}
use Rattle.sched_ticket_lease.specs.declared.span.Span.{Span}
use Rattle.sched_ticket_lease.proofs.Weights.{one-more, one-weight, parted}
use Rattle.sched_ticket_lease.proofs.spans.Spans.move_next.Goals as goal

pub returns-clause-some : goal.returns-clause-some
returns-clause-some c = (
  λ q.
      let last = one-more _ _ _ c.in-Some.ensures.items q in
      let rest = c.put_if_any.ensures.weight q in
      let seen = ap (λ (xs : List Span). weight q xs) c.self.view_is in
      let some : c.in-Some.last.first < c.in-Some.last.end = c.in-Some.last.some in
      let cut = parted q c.in-Some.last.first c.in-Some.last.first c.in-Some.last.end (omega arith) (omega arith) in
      omega arith,
  λ q.
      let more = c.put.ensures.weight q in
      let kept = ap (λ (xs : List Span). weight q xs) c.in_ok-reserve.ensures.items in
      let seen = ap (λ (xs : List Span). weight q xs) c.to.view_is in
      let one = one-weight q c.one.result c.in-Some.last.first c.one.ensures.0 c.one.ensures.1 in
      omega arith,
)
