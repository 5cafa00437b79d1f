-- What is lent is at hand no longer.
use Rattle.std.proofs.Common.{◌≡◌, ◌+◌, ◌-◌, refl, ap, arith}
use Rattle.sched_ticket.specs.Lists.{below, is}
use Rattle.sched_ticket_lease.proofs.leased.Leased.lend.Goals as goal

pub invariant_of-self-2 : goal.invariant_of-self-2
invariant_of-self-2 c = record {
  once = λ n.
      let before = c.self.invariant.once n in
      let less = c.in_ok-span.ensures.some.1 (is n) in
      omega arith;
  few = c.self.invariant.few;
}

pub returns-clause-some : goal.returns-clause-some
returns-clause-some c = rw (← c.self.view_is) (record {
  in_window = refl;
  ends = refl;
  some = (let taken = c.in_ok-span.ensures.some.0 in let whole = taken.last.some in omega arith);
  front = c.in_ok-span.ensures.some.0.front;
  last = c.in_ok-span.ensures.some.0.last;
  span = c.in_ok-span.ensures.some.0.is;
  first = c.in_ok-span.ensures.some.0.first;
  many = c.in_ok-span.ensures.some.0.many;
  at_hand = λ q.
      let some = c.in_ok-span.span.some in
      let e : c.in_ok-span.span.first + (c.in_ok-span.span.end - c.in_ok-span.span.first) ≡ c.in_ok-span.span.end =
      omega arith in
      omega (arith, c.in_ok-span.ensures.some.1 q, ap (below q) e);
  same = refl;
})
