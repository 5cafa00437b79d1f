-- A holder of one range has each of its numbers once.
use Rattle.std.proofs.Common.{List, length, ap, arith}
use Rattle.sched_ticket.specs.Lists.{is}
use Rattle.sched_ticket_lease.specs.Spans.{weight}
use Rattle.sched_ticket_lease.specs.declared.span.Span.{Span}
use Rattle.sched_ticket_lease.proofs.TakenOnce.{between-one}
use Rattle.sched_ticket_lease.proofs.leased.Leased.turn.Goals as goal

pub invariant_of-self : goal.invariant_of-self
invariant_of-self c = record {
  once = λ n.
      let set = c.in-Ok.ensures.ok (is n) in
      let none = ap (λ (xs : List Span). weight (is n) xs) c.clear.ensures in
      omega (arith, between-one n c.args.first c.args.end);
  few = omega (arith, ap (λ (xs : List Span). length xs) c.clear.ensures);
}
