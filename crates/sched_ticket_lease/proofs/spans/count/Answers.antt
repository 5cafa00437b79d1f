-- The next span has so many more.
use Rattle.std.proofs.Common.{◌≡◌, min, take, take_all, ap, refl, arith, List}
use Rattle.std.proofs.lemmas.List.Sums.{sum_by_more}
use Rattle.sched_ticket_lease.specs.Spans.{weight, span_weight}
use Rattle.sched_ticket_lease.specs.declared.span.Span.{Span}
use Rattle.sched_ticket_lease.proofs.Weights.{counted}
use Rattle.sched_ticket_lease.proofs.spans.count.Goals as goal

pub loop-span-init : goal.loop-span-init
loop-span-init c = refl

pub loop-span-preserved : goal.loop-span-preserved
loop-span-preserved c =
    let so-far : c.loop-span.count
    ≡ min (weight (λ _. 1) (take c.loop-span.span-index c.args.spans.now)) 18446744073709551615 =
    c.loop-span.invariant in
    let more =
    sum_by_more (λ (s : Span). span_weight (λ _. 1) s) c.args.spans.now c.loop-span.span-index c.span-item.result
    c.loop-span-test.true in
    let this = ap (λ (s : Span). span_weight (λ _. 1) s) c.span-item.is in
    let many = counted c.span-item.result.first c.span-item.result.end in
    omega arith

pub returns : goal.returns
returns c =
    let so-far : c.loop-span.count
    ≡ min (weight (λ _. 1) (take c.loop-span.span-index c.args.spans.now)) 18446744073709551615 =
    c.loop-span.invariant in
    let whole = ap (λ (xs : List Span). weight (λ _. 1) xs)
    (take_all c.loop-span.span-index c.args.spans.now c.loop-span-test.false) in
    omega arith
