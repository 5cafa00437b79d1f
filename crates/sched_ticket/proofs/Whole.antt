-- What a pass has that stands for all is what was drawn, and a pass that stands for less is one of several.
use Rattle.std.proofs.Common.{◌≡◌, ℕ, ◌+◌, ◌<◌, ◌≤◌, false, List, [], ◌∷◌, length, min, sym, refl, ap, ◌∙◌, arith}
use Rattle.std.proofs.Common.{lt_of_not-le}
use mathlib.Core.Logic.{dite}
use mathlib.Core.Option.{some}
use native.Mathlib.Decide.{dec_le}
use lib.ListN.{get_elem?}
use Rattle.sched_ticket.specs.Lists.{total, below, Each, is, times, once_below, AreBelow}
use Rattle.sched_ticket.specs.Rule.{used_up, number_weight, weights, splits, IsRefusal, IsSpent, Fits, IsOrderly}
use Rattle.sched_ticket.specs.Whole.{IsWhole, IsOneOfSeveral}
use Rattle.sched_ticket.specs.declared.view.Terms.{Terms}
use Rattle.sched_ticket.specs.declared.view.Refusal.{Refusal}
use Rattle.sched_ticket.specs.declared.view.View.{View}
use Rattle.sched_ticket.proofs.Sums.{term_le, alone, total-one, below-one, below-is, below-once_below, is-other}
use Rattle.sched_ticket.proofs.Sums.{once_below-yes, once_below-no, total-once_below, times-none}
use Rattle.sched_ticket.proofs.Totals.{tickets_below, tickets_le}
use Rattle.sched_ticket.proofs.Ways.{either_way, used_up-counted, used_up-none, used_up-Each, none-by_parts}
use Rattle.sched_ticket.proofs.Greatest.{greatest-alone}

-- nothing is left of a view that stands for no pass
pub is_spent : (k : Terms) (drawn made limit all : ℕ) (v : View) → Fits k drawn made limit all v → v.weight ≡ 0
    → IsSpent v
is_spent k drawn made limit all v f light =
    let spent = f.spent light in record {
      weight = light;
      tickets = spent.0;
      refusals = spent.1;
      splits = spent.2;
      refused_splits = omega (arith, f.few_refused_splits);
      raised_to = spent.3;
    }

module _ (k : Terms) (limit : ℕ) (first : limit ≡ k.limit) where
  -- no refused number is below a limit that was never raised
  pub high_refusals : (xs : List Refusal) → Each (IsRefusal k limit) xs
      → total (λ (r : Refusal). once_below r.number limit) xs ≡ 0
  high_refusals [] h = refl
  high_refusals (r ∷ xs) h = let high : limit ≤ r.number = omega (arith, h.0.0, h.0.1) in
      omega (arith, once_below-no r.number limit high, high_refusals xs h.1)

  pub other_refusals : (x : ℕ) (xs : List Refusal) → x < limit → Each (IsRefusal k limit) xs
      → total (λ (r : Refusal). is x r.number) xs ≡ 0
  other_refusals x [] low h = refl
  other_refusals x (r ∷ xs) low h =
      omega (arith, is-other x r.number (λ e. omega (arith, h.0.0, h.0.1)), other_refusals x xs low h.1)

-- where there is a refusal, as many were drawn as the first limit
pub first_late : (k : Terms) (limit drawn : ℕ) (xs : List Refusal) → 0 < length xs → Each (IsRefusal k limit) xs
    → Each (λ (r : Refusal). r.number ≤ drawn) xs → k.limit ≤ drawn
first_late k limit drawn [] some-there h late = absurd (omega arith)
first_late k limit drawn (r ∷ rs) some-there h late = omega (arith, h.0.0, h.0.1, late.0)

module _ (k : Terms) (drawn made limit : ℕ) (views : List View) (o : IsOrderly k drawn made limit views) (id : ℕ)
    (v : View) (at : get_elem? views id ≡ some v) where
  -- a pass of less weight than all is one of several
  pub is_one_of_several : v.weight < weights views → IsOneOfSeveral k v
  is_one_of_several less = record {
    all = weights views;
    less = less;
    parts = λ by. (o.parts by).0;
    passes = λ by. let p = o.passes by in (omega (arith, p.0, term_le (λ (u : View). u.splits) views id v at), p.1);
  }

module _ (k : Terms) (drawn made limit : ℕ) (views : List View) (o : IsOrderly k drawn made limit views) (id : ℕ)
    (v : View) (at : get_elem? views id ≡ some v) (all_here : weights views ≡ v.weight) where
  fits : Fits k drawn made limit (weights views) v
  fits = o.each id v at

  below_limit : Each (λ t. t < limit) v.tickets
  below_limit = tickets_below k drawn made limit (weights views) v fits

  -- a view of no weight has taken no number
  spent : (h : ℕ → ℕ) (i : ℕ) (u : View) → get_elem? views i ≡ some u → u.weight ≡ 0 → number_weight h u ≡ 0
  spent h i u there e =
      let f : Fits k drawn made limit (weights views) u = o.each i u there in
      omega (arith, ap (total h) (f.spent e).0, ap (total (λ (r : Refusal). h r.number)) (used_up-none u (f.spent e).1))

  numbers : (h : ℕ → ℕ) → number_weight h v ≡ below h drawn
  numbers h = sym (alone (number_weight h) (λ (u : View). u.weight) views id v (spent h) at all_here) ∙ o.numbers h

  drawn_is : drawn ≡ length v.tickets + length (used_up v)
  drawn_is = omega (arith, numbers (λ _. 1), total-one v.tickets, total-one (used_up v), below-one drawn)

  splits_are : splits views ≡ v.splits
  splits_are = alone (λ (u : View). u.splits) (λ (u : View). u.weight) views id v
      (λ i u there e. ((o.each i u there).spent e).2) at all_here

  -- where passes are counted each refusal used its number up
  counted_refusals : k.by_parts ≡ false → length (used_up v) ≡ length v.refusals
  counted_refusals by =
      let live : 0 < v.weight = omega (arith, (o.passes by).0, all_here) in
      ap length (used_up-counted v (ap (λ (t : Terms). t.by_parts) (fits.live live).0 ∙ by))

  module _ (first : limit ≡ k.limit) where
    refused : Each (IsRefusal k limit) (used_up v)
    refused = used_up-Each (IsRefusal k limit) v fits.refusals

    least : length v.tickets ≡ min drawn limit
    least = omega (
      arith,
      numbers (λ x. once_below x limit),
      total-once_below limit v.tickets below_limit,
      high_refusals k limit first (used_up v) refused,
      below-once_below limit drawn,
    )

    count_is : length v.tickets ≡ min (length v.tickets + length v.refusals) limit
    count_is = either_way k.by_parts
        (λ by.
        let tickets : drawn ≡ length v.tickets =
        omega (arith, drawn_is, ap length (none-by_parts k drawn made limit (weights views) v fits by)) in
        dite (dec_le 1 (length v.refusals))
        (λ some-refused. omega
        (arith, least, tickets, first, first_late k limit drawn v.refusals some-refused fits.refusals fits.late))
        (λ none. omega (arith, least, tickets)))
        (λ by. omega (arith, least, drawn_is, counted_refusals by))

    once_each : AreBelow v.tickets (length v.tickets)
    once_each x =
        let all : times x v.tickets + total (λ (r : Refusal). is x r.number) (used_up v) ≡ once_below x drawn =
        numbers (is x) ∙ below-is x drawn in
        let n : ℕ = length v.tickets in
        let fewest : n ≡ min drawn limit = least in
        dite (dec_le limit x)
        (λ high. omega (arith, times-none x limit v.tickets high below_limit, once_below-no x n (omega arith)))
        (λ not. let low : x < limit = lt_of_not-le not in dite (dec_le drawn x)
        (λ past. omega (arith, once_below-no x drawn past, once_below-no x n (omega arith)))
        (λ near. let early : x < drawn = lt_of_not-le near in
        omega (
          arith,
          once_below-yes x drawn early,
          once_below-yes x n (omega arith),
          other_refusals k limit first x (used_up v) low refused,
        )))

  pub is_whole : IsWhole k v
  is_whole = record {
    limit = limit;
    numbers = λ h. numbers h ∙ ap (below h) drawn_is;
    passes = λ by. omega (arith, (o.passes by).0, all_here, splits_are);
    parts = λ by. sym all_here ∙ (o.parts by).0;
    limit_is =
        o.limit_is ∙ greatest-alone k.limit views id v (λ i u there e. ((o.each i u there).spent e).3) at all_here;
    floor = fits.floor;
    fixed = o.fixed;
    small = o.small;
    below_limit = below_limit;
    high = fits.refusals;
    few = omega (arith, term_le (λ (u : View). length u.tickets) views id v at, tickets_le k drawn made limit views o);
    count = count_is;
    each_once = once_each;
  }
