-- What the rule says of all views together.
use Rattle.std.proofs.Common.{◌≡◌, ℕ, ◌+◌, ◌<◌, ◌≤◌, true, false, List, length, sym, ap, ◌∙◌, arith}
use mathlib.Core.Option.{some}
use lib.ListN.{get_elem?}
use Rattle.sched_ticket.specs.Lists.{total, Each, is, once_below}
use Rattle.sched_ticket.specs.Rule.{used_up, number_weight, weights, refused_splits, Fits, IsOrderly}
use Rattle.sched_ticket.specs.Steps.{IsLater, IsWithin, IsSound}
use Rattle.sched_ticket.specs.declared.view.Terms.{Terms}
use Rattle.sched_ticket.specs.declared.view.View.{View}
use Rattle.sched_ticket.proofs.Sums.{term_le, total-le, total-plus, total-one, below-one, below-once_below, below-is}
use Rattle.sched_ticket.proofs.Sums.{once_below-le, total-once_below, from, below-from, none_from, Each-map}
use Rattle.sched_ticket.proofs.Ways.{either_way, none-by_parts}

-- a view has taken as many numbers as it has tickets and has used up
pub number_weight-one : (v : View) → number_weight (λ _. 1) v ≡ length v.tickets + length (used_up v)
number_weight-one v = omega (arith, total-one v.tickets, total-one (used_up v))

-- a view's tickets are below the limit
pub tickets_below : (k : Terms) (drawn made limit all : ℕ) (v : View) → Fits k drawn made limit all v
    → Each (λ t. t < limit) v.tickets
tickets_below k drawn made limit all v f =
    Each-map (λ t. t < v.floor) (λ t. t < limit) (λ t lt. omega (arith, f.floor)) v.tickets f.tickets

module _ (k : Terms) (drawn made limit : ℕ) (views : List View) (o : IsOrderly k drawn made limit views) where
  -- the tickets of all views are no more than the limit
  pub tickets_le : total (λ (v : View). length v.tickets) views ≤ limit
  tickets_le =
      let each : total (λ (v : View). length v.tickets) views ≤ total (number_weight (λ x. once_below x limit)) views =
      total-le (λ (v : View). length v.tickets) (number_weight (λ x. once_below x limit)) views
      (λ i u at. omega (
        arith,
        total-once_below limit u.tickets (tickets_below k drawn made limit (weights views) u (o.each i u at)),
      )) in
      omega (arith, o.numbers (λ x. once_below x limit), below-once_below limit drawn)

  -- by parts no more is drawn than the limit
  pub drawn_few : k.by_parts ≡ true → drawn ≤ limit
  drawn_few by =
      let each : total (number_weight (λ _. 1)) views ≤ total (λ (v : View). length v.tickets) views =
      total-le (number_weight (λ _. 1)) (λ (v : View). length v.tickets) views
      (λ i u at. omega (
        arith,
        number_weight-one u,
        ap length (none-by_parts k drawn made limit (weights views) u (o.each i u at) by),
      )) in
      omega (arith, o.numbers (λ _. 1), below-one drawn, tickets_le)

  drawn_counted : k.by_parts ≡ false → drawn ≤ limit + 65536
  drawn_counted by =
      let each : total (number_weight (λ _. 1)) views ≤ total (λ (v : View). length v.tickets + v.weight) views =
      total-le (number_weight (λ _. 1)) (λ (v : View). length v.tickets + v.weight) views
      (λ i u at. omega (arith, number_weight-one u, (o.each i u at).few_refusals)) in
      let parts = total-plus (λ (v : View). length v.tickets) (λ (v : View). v.weight) views in
      omega (arith, o.numbers (λ _. 1), below-one drawn, tickets_le, (o.passes by).1)

  pub drawn_le : drawn ≤ limit + 65536
  drawn_le = either_way k.by_parts (λ by. omega (arith, drawn_few by)) drawn_counted

  pub made_few : k.by_parts ≡ false → made ≤ 131072
  made_few by =
      let each : refused_splits views ≤ weights views = total-le (λ (v : View). v.refused_splits)
      (λ (v : View). v.weight) views (λ i u at. (o.each i u at).few_refused_splits) in
      omega (arith, o.counted, (o.passes by).1)

  pub made_le : made ≤ 4611686018427387904
  made_le = either_way k.by_parts (λ by. omega (arith, (o.parts by).1)) (λ by. omega (arith, made_few by))

  pub weights_le : weights views ≤ 4611686018427387904
  weights_le = omega (arith, o.counted, made_le)

  module _ (by : ℕ) (v : View) (at : get_elem? views by ≡ some v) where
    -- the next number comes after all tickets of each pass
    pub is_later : IsLater v drawn
    is_later =
        let none : total (from drawn) v.tickets ≡ 0 = omega (
          arith,
          term_le (number_weight (from drawn)) views by v at,
          o.numbers (from drawn),
          below-from drawn drawn (omega arith),
        ) in (
          none_from drawn v.tickets none,
          omega (
            arith,
            term_le (number_weight (λ _. 1)) views by v at,
            o.numbers (λ _. 1),
            below-one drawn,
            number_weight-one v,
          ),
        )

    -- of the numbers below its floor, of which each stands once, a pass has its tickets
    is_within : 0 < v.weight → IsWithin v
    is_within live =
        let f = o.each by v at in
        let of = f.live live in record {
          few = omega (
            arith,
            term_le (number_weight (λ x. once_below x v.floor)) views by v at,
            o.numbers (λ x. once_below x v.floor),
            below-once_below v.floor drawn,
            total-once_below v.floor v.tickets f.tickets,
          );
          fixed = λ keeps. omega (
            arith,
            f.floor,
            of.1,
            o.fixed (ap (λ (t : Terms). t.rises) (sym of.0) ∙ keeps),
            ap (λ (t : Terms). t.limit) of.0,
          );
        }

    pub is_sound : 0 < v.weight → IsSound v
    is_sound live = record {
      once = λ x. omega (
        arith,
        term_le (number_weight (is x)) views by v at,
        o.numbers (is x),
        below-is x drawn,
        once_below-le x drawn,
      );
      small = Each-map (λ t. t < limit) (λ t. t < 4294967296) (λ t lt. omega (arith, o.small)) v.tickets
          (tickets_below k drawn made limit (weights views) v (o.each by v at));
      few_tickets = omega (arith, term_le (λ (u : View). length u.tickets) views by v at, tickets_le, o.small);
      few_passes = λ way. omega (
        arith,
        term_le (λ (u : View). u.weight) views by v at,
        (o.passes (ap (λ (t : Terms). t.by_parts) (sym ((o.each by v at).live live).0) ∙ way)).1,
      );
      few_parts = omega (arith, term_le (λ (u : View). u.weight) views by v at, weights_le);
      within = is_within live;
    }
