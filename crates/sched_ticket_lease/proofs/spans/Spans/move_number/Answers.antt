-- The span that has the number is cut in what comes before it and what comes after it.
use Rattle.std.proofs.Common.{◌≡◌, ◌+◌, ◌≤◌, refl, sym, List, ap, arith, ◌∙◌}
use Rattle.sched_ticket.specs.Lists.{is}
use Rattle.sched_ticket_lease.specs.Spans.{IsIn, weight}
use Rattle.sched_ticket_lease.specs.declared.span.Span.{Span}
use Rattle.sched_ticket_lease.proofs.Weights.{found, none-in, one-weight, parted}
use Rattle.sched_ticket_lease.proofs.spans.Spans.move_number.Goals as goal

pub returns-in_default-clause-moved : goal.returns-in_default-clause-moved
returns-in_default-clause-moved c =
    let none : weight (is c.args.number) c.deref.result.now ≡ 0 = none-in _ c.args.number c.in_default.ensures.none in
    let same = ap (λ (xs : List Span). weight (is c.args.number) xs) c.deref.ensures.value in
    let seen = ap (λ (xs : List Span). weight (is c.args.number) xs) c.self.view_is in
    (omega arith, refl, refl)

pub put_if_any-requires-clause-order : goal.put_if_any-requires-clause-order
put_if_any-requires-clause-order c =
    let meets : IsIn c.take-first.result c.args.number =
    found (λ (s : Span). IsIn s c.args.number) _ _ _ c.take-first.result
    (c.deref.ensures.value ∙ sym c.in_ok-reserve-2.ensures.items) c.take-first.ensures.is c.in-Some.ensures.some.1 in
    omega (arith, meets.0)

pub put_if_any-requires-2-clause-order : goal.put_if_any-requires-2-clause-order
put_if_any-requires-2-clause-order c =
    let meets : IsIn c.take-first.result c.args.number =
    found (λ (s : Span). IsIn s c.args.number) _ _ _ c.take-first.result
    (c.deref.ensures.value ∙ sym c.in_ok-reserve-2.ensures.items) c.take-first.ensures.is c.in-Some.ensures.some.1 in
    omega (arith, meets.1)

pub returns-clause-moved : goal.returns-clause-moved
returns-clause-moved c =
    let meets : IsIn c.take-first.result c.args.number =
    found (λ (s : Span). IsIn s c.args.number) _ _ _ c.take-first.result
    (c.deref.ensures.value ∙ sym c.in_ok-reserve-2.ensures.items) c.take-first.ensures.is c.in-Some.ensures.some.1 in
    let low : c.take-first.result.first ≤ c.args.number = omega (arith, meets.0) in
    let high : c.args.number + 1 ≤ c.take-first.result.end = omega (arith, meets.1) in (
      λ q.
          let taken = c.take-first.ensures.weight q in
          let kept = ap (λ (xs : List Span). weight q xs) c.in_ok-reserve-2.ensures.items in
          let seen = ap (λ (xs : List Span). weight q xs) c.self.view_is in
          let first = c.put_if_any.ensures.weight q in
          let then = c.put_if_any-2.ensures.weight q in
          let cut = parted q c.take-first.result.first c.args.number c.take-first.result.end low high in
          omega arith,
      λ q.
          let more = c.put.ensures.weight q in
          let kept = ap (λ (xs : List Span). weight q xs) c.in_ok-reserve.ensures.items in
          let seen = ap (λ (xs : List Span). weight q xs) c.to.view_is in
          let one = one-weight q c.one.result c.args.number c.one.ensures.0 c.one.ensures.1 in
          omega arith,
    )

pub overflow_add-number : goal.overflow_add-number
overflow_add-number c =
    let meets : IsIn c.take-first.result c.args.number =
    found (λ (s : Span). IsIn s c.args.number) _ _ _ c.take-first.result
    (c.deref.ensures.value ∙ sym c.in_ok-reserve-2.ensures.items) c.take-first.ensures.is c.in-Some.ensures.some.1 in
    omega (arith, meets.1, c.take-first.ensures.fits)

pub one-requires : goal.one-requires
one-requires c =
    let meets : IsIn c.take-first.result c.args.number =
    found (λ (s : Span). IsIn s c.args.number) _ _ _ c.take-first.result
    (c.deref.ensures.value ∙ sym c.in_ok-reserve-2.ensures.items) c.take-first.ensures.is c.in-Some.ensures.some.1 in
    omega (arith, meets.1, c.take-first.ensures.fits)
