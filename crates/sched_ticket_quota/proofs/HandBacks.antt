-- A ticket handed back keeps the rule.
use Rattle.std.proofs.Common.{◌≡◌, ℕ, ◌+◌, ◌<◌, ◌≤◌, ◌==◌, max, List, [], ◌∷◌, set, slice_index, sym, refl, ap, subst}
use Rattle.std.proofs.Common.{arith, lt_of_not-le}
use mathlib.Core.Logic.{dite}
use mathlib.Core.Option.{Option, some}
use native.Mathlib.Decide.{ℕ_discrete, dec_le}
use prog.Atomic.{either}
use lib.ListN.{get_elem?}
use Rattle.atomic_table.specs.Table.{Step, Allows}
use Rattle.atomic_table.proofs.Lists.{exchanged}
use Rattle.sched_ticket.specs.Lists.{total}
use Rattle.sched_ticket.proofs.Sums.{total-append, total-set, term_le, below-from, from, none_from}
use Rattle.sched_ticket_quota.specs.Windows.{window_of, first_of, within, count_in}
use Rattle.sched_ticket_quota.specs.View.{with_setback, latest_in, without_latest, with_return}
use Rattle.sched_ticket_quota.specs.Rule.{ticket_weight, tickets_in, returned_in, IsSeen, Words, IsOrderly, IsKept}
use Rattle.sched_ticket_quota.specs.Steps.{Sat, returns, lapses}
use Rattle.sched_ticket_quota.specs.declared.view.Terms.{Terms}
use Rattle.sched_ticket_quota.specs.declared.view.View.{View}
use Rattle.sched_ticket_quota.proofs.Numbers.{within-yes}
use Rattle.sched_ticket_quota.proofs.Counts.{drawn_le}
use Rattle.sched_ticket_quota.proofs.Moves.{words_at, Grows, dealt-same, counted-same, noted-on, given-same, grows}
use Rattle.sched_ticket_quota.proofs.Moves.{moved, allows, kept-back, told}

module _ (k : Terms) where
  -- the tickets of a pass are the latest and the others
  latest-sum : (h : ℕ → ℕ) (ts : List ℕ) → total h (without_latest ts) + total h (latest_in ts) ≡ total h ts
  latest-sum h [] = refl
  latest-sum h (t ∷ ts) = omega arith

  latest-spent : (ts : List ℕ) → ts ≡ [] → (without_latest ts ≡ []) × (latest_in ts ≡ [])
  latest-spent ts none = (ap without_latest none, ap latest_in none)

  -- a pass has handed its latest ticket back, and their word is r'
  returns-to : (x : Words) (views : List View) (id : ℕ) (v : View) (r' : ℕ) → IsOrderly k x views
      → get_elem? views id ≡ some v → 0 < v.weight
      → x.back ≤ r' → r' ≤ 17496587910722355200
      → (Grows k views (set views id (with_return v r')) → IsSeen (returned_in (set views id (with_return v r'))) r')
      → IsOrderly k (record x { back = r' }) (set views id (with_return v r'))
  returns-to x views id v r' o at live more few is_seen =
      let w : View = with_return v r' in
      let x' : Words = record x { back = r' } in
      let sum : (h : ℕ → ℕ) → ticket_weight h w ≡ ticket_weight h v = λ h.
      omega (arith, latest-sum h v.tickets, total-append h (latest_in v.tickets) v.returned) in
      let g = grows k views id v w at (λ n. omega (arith, sum (within (first_of n) 4294967296)))
      (λ n. omega (arith, total-append (within (first_of n) 4294967296) (latest_in v.tickets) v.returned))
      (λ n. omega arith) (λ n. omega arith) (λ n. omega arith) in
      moved k x x' views id v w o at refl refl
      (dealt-same x.carries x.drawn x.window views id v w at sum o.dealt)
      (given-same k x.carries x.drawn views id v w at sum g o.given) (omega arith)
      (noted-on k views (set views id w) x.past g o.noted)
      (counted-same x.asked x.latest views id v w at refl refl refl o.counted)
      (omega arith) (omega arith) o.behind more g (omega (arith, o.force, g.force x.current)) (is_seen g) few
      (λ n some-window given.
      let less : tickets_in (set views id w) n ≤ tickets_in views n = omega (
        arith,
        total-set (λ (u : View). count_in n u.tickets) views id v w at,
        latest-sum (within (first_of n) 4294967296) v.tickets,
      ) in
      omega (arith, o.entered n some-window (omega arith), g.starts n))
      (λ f. record {
        seen = f.seen;
        counted = f.counted;
        begun = f.begun;
        found = f.found;
        given = f.given;
        back = omega arith;
        came_back = is_seen g;
        past = f.past;
        noted = f.noted;
        live = f.live;
        kind = f.kind;
        force = f.force;
        spent = λ none. absurd (omega arith);
      })

  pub lapses_ok : (n id : ℕ) (m : Sat) (st : Step ℕ) → 0 < m.0.weight
      → Allows (IsKept k) n id m 9 (λ x. x) (lapses st m)
  lapses_ok n id m st live = allows k n id m 9 (λ x. x) (lapses st m) (λ window latest kind ws views long o at.
      let v : View = m.0 in
      let r : ℕ = slice_index ws 9 in
      let x : Words = words_at (slice_index ws 8) window (slice_index ws 24) latest (slice_index ws 25) r
      (slice_index ws 26) kind in
      let f = o.each id v at in (
        with_return v r,
        (λ homes. kept-back k ws (set views id (with_return v r)) homes window latest kind long r
            (returns-to x views id v r o at live (omega arith) o.few_back
            (λ g. omega (arith, o.came_back, g.returned (window_of r))))),
        (f.back, refl),
      ))

  -- a ticket is below the word of the draws
  ticket-below : (x : Words) (views : List View) (id : ℕ) (v : View) (t : ℕ) (ts : List ℕ) → IsOrderly k x views
      → get_elem? views id ≡ some v → v.tickets ≡ t ∷ ts → t < x.drawn
  ticket-below x views id v t ts o at had =
      let none : ticket_weight (from x.drawn) v ≡ 0 = omega (
        arith,
        term_le (ticket_weight (from x.drawn)) views id v at,
        o.dealt.once (from x.drawn),
        below-from x.drawn x.drawn (omega arith),
      ) in
      (none_from x.drawn (t ∷ ts) (omega (arith, none, ap (total (from x.drawn)) had))).0

  pub returns_ok : (n id : ℕ) (m : Sat) (st : Step ℕ) (t : ℕ) (ts : List ℕ) → 0 < m.0.weight → m.0.tickets ≡ t ∷ ts
      → st.first ≡ m.0.back → window_of st.first ≤ window_of t → st.second ≡ max st.first (first_of (window_of t)) + 1
      → Allows (IsKept k) n id m 9 (λ x. either (x == st.first) st.second x) (returns st m)
  returns_ok n id m st t ts live had first no-later second = allows k n id m 9 (λ x. either (x == st.first) st.second x)
      (returns st m) (λ window latest kind ws views long o at.
      let v : View = m.0 in
      let r : ℕ = slice_index ws 9 in
      let r' : ℕ = st.second in
      let a : ℕ = first_of (window_of t) in
      let x : Words = words_at (slice_index ws 8) window (slice_index ws 24) latest (slice_index ws 25) r
      (slice_index ws 26) kind in
      let f = o.each id v at in
      let F : ℕ → Type 0 = λ y. (w : View)
      × ((homes : List (Option ℕ)) → IsKept k (record { words = set ws 9 y; homes = homes; views = set views id w }))
      × returns st m r (w, m.1) in
      let below-it : t < x.drawn = ticket-below x views id v t ts o at had in
      let most = drawn_le k x views o in
      exchanged r st.first st.second F
      (λ hit. (
        with_return v r',
        (λ homes. kept-back k ws (set views id (with_return v r')) homes window latest kind long r'
            (returns-to x views id v r' o at live (omega (arith, hit, second)) (omega (arith, hit, second, no-later))
            (λ g.
            let w : View = with_return v r' in
            let inside : within a 4294967296 t ≡ 1 = within-yes a 4294967296 t (omega arith) (omega arith) in
            let one : count_in (window_of t) (latest_in v.tickets) ≡ 1 =
            omega (arith, ap (λ (l : List ℕ). count_in (window_of t) (latest_in l)) had, inside) in
            let more : returned_in (set views id w) (window_of t) ≡ returned_in views (window_of t) + 1 =
            omega (
              arith,
              total-set (λ (u : View). count_in (window_of t) u.returned) views id v w at,
              total-append (within a 4294967296) (latest_in v.tickets) v.returned,
              one,
            ) in
            dite (ℕ_discrete (window_of r') (window_of t))
            (λ same.
            let low : r' ≤ a + returned_in (set views id w) (window_of t) = dite (dec_le a r)
            (λ there.
            let here : window_of r ≡ window_of t = omega (arith, hit, no-later) in
            let was : r ≤ a + returned_in views (window_of t) =
            subst (λ (y : ℕ). r ≤ first_of y + returned_in views y) here o.came_back in
            omega (arith, hit, second, was, more))
            (λ not. omega (arith, hit, second, lt_of_not-le not, more)) in
            subst (λ (y : ℕ). r' ≤ first_of y + returned_in (set views id w) y) (sym same) low)
            (λ other.
            let up : r' ≤ a + 4294967296 = omega (arith, hit, second, no-later) in
            let next : r' ≡ a + 4294967296 = dite (dec_le (a + 4294967296) r')
            (λ le. omega (arith, le, up))
            (λ not. absurd (other (omega (arith, lt_of_not-le not, hit, second)))) in
            omega (arith, next))))),
        ((λ _. refl), λ miss. absurd (miss hit)),
      ))
      (λ miss. dite (dec_le r v.back)
      (λ known. (
        v,
        (λ homes. kept-back k ws (set views id v) homes window latest kind long r
            (told k x views id v v.current v.seen v.found v.back v.past v.readings v.glances v.recalls v.reviews v.looks
            v.losses o at f.force f.seen f.counted f.begun f.found f.given f.back f.came_back f.past)),
        ((λ hit. absurd (miss hit)), λ _. (f.back, (λ past. absurd (omega (arith, past, known))), λ _. refl)),
      ))
      (λ not. (
        with_setback v r,
        (λ homes. kept-back k ws (set views id (with_setback v r)) homes window latest kind long r
            (told k x views id v v.current v.seen v.found r v.past v.readings v.glances v.recalls v.reviews v.looks
            (v.losses + 1) o at f.force f.seen f.counted f.begun f.found f.given (omega arith) o.came_back f.past)),
        (
          (λ hit. absurd (miss hit)),
          λ _. (f.back, (λ _. refl), λ same. absurd (omega (arith, same, lt_of_not-le not))),
        ),
      ))))
