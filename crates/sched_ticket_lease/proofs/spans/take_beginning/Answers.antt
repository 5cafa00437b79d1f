-- The span that was taken out is the one that was found.
use Rattle.std.proofs.Common.{◌≡◌, ◌<◌, ap, arith}
use Rattle.sched_ticket.specs.Lists.{below}
use Rattle.sched_ticket_lease.specs.declared.span.Span.{Span}
use Rattle.sched_ticket_lease.proofs.Weights.{found}
use Rattle.sched_ticket_lease.proofs.spans.take_beginning.Goals as goal

pub returns-in-Some-clause-weight : goal.returns-in-Some-clause-weight
returns-in-Some-clause-weight c q =
    let e : c.take.result.first ≡ c.args.first = found (λ (s : Span). s.first ≡ c.args.first) _ _ _ c.take.result
    c.deref.ensures.value c.take.ensures.is c.in-Some.ensures.some.1 in
    omega (arith, c.take.ensures.weight q, ap (below q) e)

pub returns-in-Some-clause-after : goal.returns-in-Some-clause-after
returns-in-Some-clause-after c =
    let e : c.take.result.first ≡ c.args.first = found (λ (s : Span). s.first ≡ c.args.first) _ _ _ c.take.result
    c.deref.ensures.value c.take.ensures.is c.in-Some.ensures.some.1 in
    let some : c.take.result.first < c.take.result.end = c.take.result.some in
    omega arith
