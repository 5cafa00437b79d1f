-- What the rule says of the words, and of all views together.
use Rattle.std.proofs.Common.{◌≡◌, ℕ, Bool, ◌+◌, ◌-◌, ◌<◌, ◌≤◌, min, List, set, cond, sym, ap, subst, arith}
use Rattle.std.proofs.Common.{lt_of_not-le, lt-ltb, le-ltb}
use mathlib.Core.Logic.{dite}
use mathlib.Core.Option.{some}
use native.Mathlib.Decide.{dec_le}
use lib.ListN.{get_elem?}
use Rattle.sched_ticket.specs.Lists.{total, below, is}
use Rattle.sched_ticket.proofs.Sums.{total-set, total-one, term_le, total-le, total-plus, below-one, below-is}
use Rattle.sched_ticket.proofs.Sums.{once_below-le, from, below-from, none_from}
use Rattle.sched_ticket_quota.specs.Windows.{window_of, first_of, own_numbers, late_numbers, within, count_in}
use Rattle.sched_ticket_quota.specs.Rule.{ticket_weight, request_weight, dealt_in, requests_in, weights, may_count}
use Rattle.sched_ticket_quota.specs.Rule.{openings, begins, IsDealt, IsCounted, IsSeen, IsFound, Words, IsOrderly}
use Rattle.sched_ticket_quota.specs.Steps.{IsNoLater, IsLater, IsSound}
use Rattle.sched_ticket_quota.specs.declared.view.Terms.{Terms}
use Rattle.sched_ticket_quota.specs.declared.view.View.{View}
use Rattle.sched_ticket_quota.proofs.Numbers.{below-within, both-numbers}

pub may_count-yes : (v : View) → v.told < 12884901888000000000 → may_count v ≡ v.weight
may_count-yes v h = ap (λ b. cond b v.weight 0) (lt-ltb v.told 12884901888000000000 h)

pub may_count-no : (v : View) → 12884901888000000000 ≤ v.told → may_count v ≡ 0
may_count-no v h = ap (λ b. cond b v.weight 0) (le-ltb v.told 12884901888000000000 h)

pub may_count-le : (v : View) → may_count v ≤ v.weight
may_count-le v = dite (dec_le 12884901888000000000 v.told)
    (λ full. omega (arith, may_count-no v full)) (λ not. omega (arith, may_count-yes v (lt_of_not-le not)))

pub all_may_count : (views : List View) → total may_count views ≤ weights views
all_may_count views = total-le may_count (λ (v : View). v.weight) views (λ i u at. may_count-le u)

-- one view changes, and not in this
pub total-same : (p : View → ℕ) (views : List View) (j : ℕ) (v w : View) → get_elem? views j ≡ some v → p w ≡ p v
    → total p (set views j w) ≡ total p views
total-same p views j v w at same = omega (arith, total-set p views j v w at)

-- one view has more
pub total-more : (p : View → ℕ) (views : List View) (j : ℕ) (v w : View) → get_elem? views j ≡ some v → p v ≤ p w
    → total p views ≤ total p (set views j w)
total-more p views j v w at more = omega (arith, total-set p views j v w at)

module _ (asked latest : ℕ) (views : List View) (c : IsCounted asked latest views) where
  -- as many requests were counted in the latest window as its word says
  pub seen_at : IsSeen (requests_in views) asked
  seen_at =
      let w : ℕ = window_of asked in
      let a : ℕ = first_of w in
      let h : ℕ → ℕ = within a 4294967296 in
      let up : below h asked ≤ below h (first_of latest) + total (request_weight h) views = c.all h in
      let here : below h asked ≡ min (asked - a) 4294967296 = below-within a 4294967296 asked in
      let before : below h (first_of latest) ≡ min (first_of latest - a) 4294967296 =
      below-within a 4294967296 (first_of latest) in
      let start = c.from in
      let low : latest ≤ w = omega arith in
      omega arith

  -- the latest window was begun
  pub begun_at : 0 < window_of asked → 0 < begins views (window_of asked)
  begun_at some-window =
      let w : ℕ = window_of asked in
      let start = c.from in
      let low : latest ≤ w = omega arith in
      dite (dec_le w latest)
      (λ here.
      let same : latest ≡ w = omega arith in
      let opened : 0 < openings views (first_of w) =
      subst (λ (x : ℕ). 0 < x → 0 < openings views (first_of x)) same c.opened some-window in
      omega arith)
      (λ not.
      let later : latest < w = lt_of_not-le not in
      let a : ℕ = first_of (w - 1) in
      let h : ℕ → ℕ = within a 4294967296 in
      let up : below h asked ≤ below h (first_of latest) + requests_in views (w - 1) = c.all h in
      let here : below h asked ≡ min (asked - a) 4294967296 = below-within a 4294967296 asked in
      let before : below h (first_of latest) ≡ min (first_of latest - a) 4294967296 =
      below-within a 4294967296 (first_of latest) in
      let full : 4294967296 ≤ requests_in views (w - 1) = omega arith in
      omega arith)

-- the tickets of a window and those handed back
pub all-dealt : (views : List View) (w : ℕ)
    → total (ticket_weight (within (first_of w) 4294967296)) views ≡ dealt_in views w
all-dealt views w = total-plus (λ (v : View). count_in w v.tickets) (λ (v : View). count_in w v.returned) views

module _ (c : Bool) (drawn window : ℕ) (views : List View) (d : IsDealt c drawn window views) where
  -- as many tickets were given in the latest window as its word says
  pub found_at : IsFound c (dealt_in views) drawn
  found_at w low high =
      let a : ℕ = first_of w in
      let h : ℕ → ℕ = within a 4294967296 in
      let from = d.from in
      let to = d.to in
      let begun : 0 < window → first_of window < drawn + late_numbers c = d.begun in
      let numbers = both-numbers c in
      let same : window ≡ w =
      dite (dec_le 1 window) (λ some-window. let s = begun some-window in omega arith) (λ none. omega arith) in
      let start : first_of window ≡ a = ap first_of same in
      let up : below h drawn ≤ below h (first_of window) + total (ticket_weight h) views = d.all h in
      let here : below h drawn ≡ min (drawn - a) 4294967296 = below-within a 4294967296 drawn in
      let before : below h (first_of window) ≡ min (first_of window - a) 4294967296 =
      below-within a 4294967296 (first_of window) in
      omega (arith, all-dealt views w)

  -- the next ticket comes after all tickets of each pass
  pub is_later : (by : ℕ) (v : View) (t : ℕ) → get_elem? views by ≡ some v → drawn ≤ t → t < 17496587910722355200
      → IsLater v t
  is_later by v t at past small =
      let none : ticket_weight (from t) v ≡ 0 =
      omega (arith, term_le (ticket_weight (from t)) views by v at, d.once (from t), below-from t drawn past) in (
        none_from t v.tickets (omega (arith, none)),
        omega (
          arith,
          term_le (ticket_weight (λ _. 1)) views by v at,
          d.once (λ _. 1),
          below-one drawn,
          total-one v.tickets,
        ),
        small,
      )

module _ (k : Terms) (x : Words) (views : List View) (o : IsOrderly k x views) where
  pub asked_le : x.asked ≤ 17496587906427387904
  asked_le = omega (arith, o.counted.small)

  pub drawn_le : x.drawn ≤ 17496587910722355200
  drawn_le = omega (arith, o.dealt.to, o.behind, asked_le, both-numbers x.carries)

  module _ (by : ℕ) (v : View) (at : get_elem? views by ≡ some v) where
    -- what a pass would find now was dealt
    pub found_now : 0 < v.weight → IsFound v.carries (dealt_in views) x.drawn
    found_now live = subst (λ (c : Bool). IsFound c (dealt_in views) x.drawn) (sym ((o.each by v at).kind live))
        (found_at x.carries x.drawn x.window views o.dealt)

    -- what a pass has found is of no window past the latest
    pub no_later : 0 < v.weight → IsNoLater v.carries v.found x.asked
    no_later live =
        let kind = ap own_numbers ((o.each by v at).kind live) in
        let f = (o.each by v at).found in
        let to = o.dealt.to in
        let behind = o.behind in
        let low : x.window ≤ window_of x.asked = omega arith in
        omega (arith, kind)

    pub is_sound : IsSound v
    is_sound = record {
      once = λ n. omega (
        arith,
        term_le (ticket_weight (is n)) views by v at,
        o.dealt.once (is n),
        below-is n x.drawn,
        once_below-le n x.drawn,
      );
      few_tickets = omega (
        arith,
        term_le (ticket_weight (λ _. 1)) views by v at,
        o.dealt.once (λ _. 1),
        below-one x.drawn,
        total-one v.tickets,
        drawn_le,
      );
      few_parts = omega (arith, term_le (λ (u : View). u.weight) views by v at, o.parts);
    }
