-- The last span is taken, or cut in two.
use Rattle.std.proofs.Common.{◌+◌, List, sym, ap, arith, ◌∙◌}
use Rattle.sched_ticket_lease.specs.Spans.{weight}
use Rattle.sched_ticket_lease.specs.declared.span.Span.{Span}
use Rattle.sched_ticket_lease.proofs.Weights.{one-more, joined}
use Rattle.sched_ticket_lease.proofs.spans.Spans.take_up_to.Goals as goal

pub returns-then-end-first-clause-some : goal.returns-then-end-first-clause-some
returns-then-end-first-clause-some c = (
  record {
    front = c.pop.new.self.items;
    last = c.in_ok-last.last;
    is = sym c.self.view_is ∙ c.in_ok-last.ensures.items;
    first = omega arith;
    many = omega arith;
  },
  λ q.
      let last = one-more _ _ _ c.in_ok-last.ensures.items q in
      let seen = ap (λ (xs : List Span). weight q xs) c.self.view_is in
      omega arith,
)

pub returns-clause-some : goal.returns-clause-some
returns-clause-some c = (
  record {
    front = c.pop.new.self.items;
    last = c.in_ok-last.last;
    is = sym c.self.view_is ∙ c.in_ok-last.ensures.items;
    first = omega arith;
    many = omega arith;
  },
  λ q.
      let last = one-more _ _ _ c.in_ok-last.ensures.items q in
      let seen = ap (λ (xs : List Span). weight q xs) c.self.view_is in
      let rest = c.put_if_any.ensures.weight q in
      let cut = joined q c.in_ok-last.last.first (c.in_ok-last.last.first + c.args.most) c.in_ok-last.last.end
      (omega arith) (omega arith) in
      omega arith,
)
