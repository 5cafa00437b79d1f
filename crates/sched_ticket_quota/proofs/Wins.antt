-- A draw that wins a ticket keeps the rule.
use Rattle.std.proofs.Common.{◌≡◌, ◌≢◌, ℕ, Bool, true, ◌+◌, ◌-◌, ◌*◌, ◌/◌, ◌%◌, ◌<◌, ◌≤◌, ◌==◌, max, cond, ne_eqb}
use Rattle.std.proofs.Common.{List, set, slice_index, sym, refl, ap, ◌∙◌, subst, arith, lt_of_not-le}
use mathlib.Core.Logic.{dite}
use mathlib.Core.Option.{Option, some}
use native.Mathlib.Decide.{ℕ_discrete, dec_le}
use prog.Atomic.{either}
use lib.ListN.{get_elem?}
use Rattle.atomic_table.specs.Table.{Step, Allows}
use Rattle.atomic_table.proofs.Lists.{exchanged}
use Rattle.sched_ticket.specs.Lists.{total, below, is}
use Rattle.sched_ticket.proofs.Sums.{total-set, below_more}
use Rattle.sched_ticket_quota.specs.Windows.{window_of, first_of, terms_of, AllowNoMore, ShareNoMore, allowed}
use Rattle.sched_ticket_quota.specs.Windows.{own_numbers, late_numbers, back_in, floor_of, left_of, carried_to, within}
use Rattle.sched_ticket_quota.specs.Windows.{count_in}
use Rattle.sched_ticket_quota.specs.View.{with_ticket, with_loss, next_ticket}
use Rattle.sched_ticket_quota.specs.View.{carried_by}
use Rattle.sched_ticket_quota.specs.Rule.{ticket_weight, tickets_in, returned_in, dealt_in, late_in}
use Rattle.sched_ticket_quota.specs.Rule.{requests_in, in_force, begins, IsDealt, AreLate}
use Rattle.sched_ticket_quota.specs.Rule.{IsGiven, IsFound, Words, IsOrderly, IsKept}
use Rattle.sched_ticket_quota.specs.Steps.{Sat, wins}
use Rattle.sched_ticket_quota.specs.declared.view.Terms.{Terms}
use Rattle.sched_ticket_quota.specs.declared.view.View.{View}
use Rattle.sched_ticket_quota.proofs.Numbers.{allowed-mono, share-mono, allow-less, share-less, both-numbers}
use Rattle.sched_ticket_quota.proofs.Numbers.{late-carries, few-carried, carried-late, carried-first, below-mono}
use Rattle.sched_ticket_quota.proofs.Numbers.{below-within, within-yes, within-low, within-high}
use Rattle.sched_ticket_quota.proofs.Numbers.{within-other, back_in-le}
use Rattle.sched_ticket_quota.proofs.Counts.{all-dealt, found_at, found_now, is_later, asked_le}
use Rattle.sched_ticket_quota.proofs.Counts.{drawn_le}
use Rattle.sched_ticket_quota.proofs.Moves.{words_at, Grows, counted-same, noted-on, grows, moved, allows}
use Rattle.sched_ticket_quota.proofs.Moves.{kept-draws, told}

module _ (k : Terms) where
  -- a ticket more
  dealt-one : (views : List View) (id : ℕ) (v : View) (t : ℕ) → get_elem? views id ≡ some v → (h : ℕ → ℕ)
      → total (ticket_weight h) (set views id (with_ticket v t)) ≡ total (ticket_weight h) views + h t
  dealt-one views id v t at h = omega (arith, total-set (ticket_weight h) views id v (with_ticket v t) at)

  grows-one : (views : List View) (id : ℕ) (v : View) (t : ℕ) → get_elem? views id ≡ some v
      → Grows k views (set views id (with_ticket v t))
  grows-one views id v t at = grows k views id v (with_ticket v t) at (λ n. omega arith) (λ n. omega arith)
      (λ n. omega arith) (λ n. omega arith) (λ n. omega arith)

  -- the words are in order after it
  deals-to : (x : Words) (views : List View) (id : ℕ) (v : View) (t m : ℕ) → IsOrderly k x views
      → get_elem? views id ≡ some v → 0 < v.weight → v.found ≡ x.drawn
      → t ≡ max x.drawn (first_of (window_of v.seen) - m) → first_of (window_of v.seen) ≤ t + late_numbers x.carries
      → t < first_of (window_of v.seen) + own_numbers x.carries
      → IsGiven k x.carries (t + 1) (set views id (with_ticket v t))
      → (0 < window_of t → 0 < begins views (window_of t))
      → IsOrderly k (record x { drawn = t + 1; window = window_of v.seen }) (set views id (with_ticket v t))
  deals-to x views id v t m o at live here is-next low high given begun-it =
      let w : View = with_ticket v t in
      let c : Bool = x.carries in
      let n : ℕ = window_of v.seen in
      let a : ℕ = first_of n in
      let d : ℕ = x.drawn in
      let x' : Words = record x { drawn = t + 1; window = n } in
      let numbers = both-numbers c in
      let f = o.each id v at in
      let g = grows-one views id v t at in
      let sums = dealt-one views id v t at in
      let to = o.dealt.to in
      let begun : 0 < x.window → first_of x.window < d + late_numbers c = o.dealt.begun in
      let dealt : IsDealt c (t + 1) n (set views id w) = record {
        once = λ h. omega (arith, sums h, o.dealt.once h, below-mono h d t (omega arith), below_more h t);
        all = λ h. dite (dec_le a t)
            (λ own. dite (dec_le d a)
            (λ first. let is_first : t ≡ a = omega arith in
            omega (arith, sums h, below_more h t, ap (below h) is_first))
            (λ not.
            let past : a < d = lt_of_not-le not in
            let is_next : t ≡ d = omega arith in
            let same : x.window ≡ n = dite (dec_le 1 x.window) (λ some-window. let s = begun some-window in omega arith)
            (λ none. omega arith) in
            omega (
              arith,
              sums h,
              o.dealt.all h,
              below_more h t,
              ap (below h) is_next,
              ap (λ (y : ℕ). below h (first_of y)) same,
            )))
            (λ not. omega (arith, below-mono h (t + 1) a (omega (arith, lt_of_not-le not))));
        from = omega arith;
        to = omega arith;
        begun = λ _. omega arith;
      } in
      let seen = f.seen in
      moved k x x' views id v w o at refl refl
      dealt given (omega arith) (noted-on k views (set views id w) x.past g o.noted)
      (counted-same x.asked x.latest views id v w at refl refl refl o.counted)
      (omega arith) (omega arith) (omega arith) (omega arith) g (omega (arith, o.force, g.force x.current))
      (omega (arith, o.came_back, g.returned (window_of x.back))) o.few_back
      (λ y some-window given. dite (ℕ_discrete y (window_of t))
      (λ same. subst (λ (z : ℕ). 0 < begins (set views id w) z) (sym same)
      (omega (arith, begun-it (omega arith), g.starts (window_of t))))
      (λ other.
      let sum : tickets_in (set views id w) y + count_in y v.tickets ≡ tickets_in views y + count_in y w.tickets =
      total-set (λ (u : View). count_in y u.tickets) views id v w at in
      omega (
        arith,
        within-other y t other,
        o.entered y some-window (omega (arith, sum, given, within-other y t other)),
        g.starts y,
      )))
      (λ f'. record {
        seen = f'.seen;
        counted = f'.counted;
        begun = f'.begun;
        found = omega arith;
        given = subst (λ (z : Bool). IsFound z (dealt_in (set views id w)) (t + 1)) (sym (f.kind live))
            (found_at c (t + 1) n (set views id w) dealt);
        back = f'.back;
        came_back = f'.came_back;
        past = f'.past;
        noted = f'.noted;
        live = f'.live;
        kind = f'.kind;
        force = f'.force;
        spent = λ none. absurd (omega arith);
      })

  -- a window may give one of its own numbers where its terms allow it
  given-own : (x : Words) (views : List View) (id : ℕ) (v : View) (t : ℕ) → IsOrderly k x views
      → get_elem? views id ≡ some v → 0 < v.weight
      → x.drawn ≤ t → first_of (window_of v.seen) ≤ t → t < floor_of x.carries (terms_of k v.current) v.seen v.back
      → IsGiven k x.carries (t + 1) (set views id (with_ticket v t))
  given-own x views id v t o at live late-enough own room =
      let c : Bool = x.carries in
      let n : ℕ = window_of v.seen in
      let a : ℕ = first_of n in
      let j : Terms = terms_of k v.current in
      let views' : List View = set views id (with_ticket v t) in
      let numbers = both-numbers c in
      let f = o.each id v at in
      let g = grows-one views id v t at in
      let sums = dealt-one views id v t at in
      let high : t < a + own_numbers c = omega arith in
      let less : (w m : ℕ) → AllowNoMore k (in_force k views') (requests_in views' w) m
      → AllowNoMore k (in_force k views) (requests_in views w) m =
      λ w m. allow-less k (in_force k views) (in_force k views') (requests_in views w) (requests_in views' w) m
      (g.requests w) g.force in
      let fewer : (w m : ℕ) → ShareNoMore k (in_force k views') (requests_in views' w) m
      → ShareNoMore k (in_force k views) (requests_in views w) m =
      λ w m. share-less k (in_force k views) (in_force k views') (requests_in views w) (requests_in views' w) m
      (g.requests w) g.force in
      let here : (m : ℕ) → AllowNoMore k (in_force k views') (requests_in views' n) m
      → dealt_in views' n ≤ m + returned_in views' n = λ m most.
      let h : ℕ → ℕ = within a 4294967296 in
      let few : total (ticket_weight h) views' ≤ below h (t + 1) =
      omega (arith, sums h, o.dealt.once h, below-mono h x.drawn t late-enough, below_more h t) in
      let enough : allowed j (v.seen % 4294967296) ≤ allowed j (requests_in views' n) =
      allowed-mono j (v.seen % 4294967296) (requests_in views' n) (omega (arith, f.counted, g.requests n)) in
      let came : back_in v.back n ≤ returned_in views n = back_in-le v.back n (returned_in views) f.came_back in
      omega (
        arith,
        few,
        below-within a 4294967296 (t + 1),
        all-dealt views' n,
        enough,
        came,
        g.returned n,
        most v.current (omega (arith, f.force live, g.force v.current)),
      ) in
      let none-late : (w : ℕ) → within (first_of w + own_numbers c) (late_numbers c) t ≡ 0 = λ w. dite (dec_le n w)
      (λ up. within-low (first_of w + own_numbers c) (late_numbers c) t (omega arith))
      (λ not. within-high (first_of w + own_numbers c) (late_numbers c) t (omega (arith, lt_of_not-le not))) in
      let not-late : (w : ℕ) → AreLate c (t + 1) w → ⊥ = λ w near. dite (dec_le n w)
      (λ up. absurd (omega (arith, near.0)))
      (λ not. absurd (omega (arith, near.1, lt_of_not-le not))) in record {
        windows = λ w m most. dite (ℕ_discrete w n)
            (λ same.
            subst (λ (y : ℕ). AllowNoMore k (in_force k views') (requests_in views' y) m
            → dealt_in views' y ≤ m + returned_in views' y) (sym same) (here m) most)
            (λ other. omega (
              arith,
              all-dealt views' w,
              all-dealt views w,
              sums (within (first_of w) 4294967296),
              within-other w t (λ (e : w ≡ window_of t). other (omega (arith, e))),
              o.given.windows w m (less w m most),
              g.returned w,
            ));
        shares = λ w m most. omega (
          arith,
          sums (within (first_of w + own_numbers c) (late_numbers c)),
          none-late w,
          o.given.shares w m (fewer w m most),
        );
        windows_yet = λ w m near most. absurd (not-late w near);
        shares_yet = λ w m near most. absurd (not-late w near);
        begun = λ w near some-window. absurd (not-late w near);
      }

  -- and one of the share of the window before, where what that leaves is within its terms
  given-late : (x : Words) (views : List View) (id : ℕ) (v : View) (t u : ℕ) → IsOrderly k x views
      → get_elem? views id ≡ some v → x.carries ≡ true
      → x.drawn ≤ t → first_of (u + 1) ≤ t + 2147483648 → t < first_of (u + 1)
      → ((m : ℕ) → AllowNoMore k (in_force k views) (requests_in views u) m
      → dealt_in views u + (first_of (u + 1) - t) ≤ m + returned_in views u)
      → ((m : ℕ) → ShareNoMore k (in_force k views) (requests_in views u) m
      → late_in x.carries views u + (first_of (u + 1) - t) ≤ m)
      → (0 < u → 0 < begins views u) → IsGiven k x.carries (t + 1) (set views id (with_ticket v t))
  given-late x views id v t u o at carries late-enough low high yet share-yet begun =
      let c : Bool = x.carries in
      let views' : List View = set views id (with_ticket v t) in
      let own : own_numbers c ≡ 2147483648 = ap own_numbers carries in
      let late : late_numbers c ≡ 2147483648 = ap late_numbers carries in
      let g = grows-one views id v t at in
      let sums = dealt-one views id v t at in
      let less : (w m : ℕ) → AllowNoMore k (in_force k views') (requests_in views' w) m
      → AllowNoMore k (in_force k views) (requests_in views w) m =
      λ w m. allow-less k (in_force k views) (in_force k views') (requests_in views w) (requests_in views' w) m
      (g.requests w) g.force in
      let fewer : (w m : ℕ) → ShareNoMore k (in_force k views') (requests_in views' w) m
      → ShareNoMore k (in_force k views) (requests_in views w) m =
      λ w m. share-less k (in_force k views) (in_force k views') (requests_in views w) (requests_in views' w) m
      (g.requests w) g.force in
      let here : window_of t ≡ u = omega arith in
      let is-it : (w : ℕ) → AreLate c (t + 1) w → w ≡ u = λ w near. omega (arith, near.0, near.1, own) in
      let dealt : (w : ℕ) → dealt_in views' w ≡ dealt_in views w + within (first_of w) 4294967296 t = λ w.
      omega (arith, all-dealt views' w, all-dealt views w, sums (within (first_of w) 4294967296)) in
      let lates : (w : ℕ) → late_in c views' w ≡ late_in c views w + within (first_of w + own_numbers c)
      (late_numbers c) t = λ w. sums (within (first_of w + own_numbers c) (late_numbers c)) in
      let one : within (first_of u) 4294967296 t ≡ 1 =
      within-yes (first_of u) 4294967296 t (omega arith) (omega arith) in
      let one-late : within (first_of u + own_numbers c) (late_numbers c) t ≡ 1 =
      within-yes (first_of u + own_numbers c) (late_numbers c) t (omega (arith, own)) (omega (arith, own, late)) in
      let none-late : (w : ℕ) → w ≢ u → within (first_of w + own_numbers c) (late_numbers c) t ≡ 0 = λ w other.
      dite (dec_le u w)
      (λ up. within-low (first_of w + own_numbers c) (late_numbers c) t (omega (arith, up, other)))
      (λ not.
      within-high (first_of w + own_numbers c) (late_numbers c) t (omega (arith, lt_of_not-le not, own, late))) in
      let windows-here : (m : ℕ) → AllowNoMore k (in_force k views') (requests_in views' u) m
      → dealt_in views' u + (first_of (u + 1) - (t + 1)) ≤ m + returned_in views' u =
      λ m most. omega (arith, dealt u, one, yet m (less u m most), g.returned u) in
      let shares-here : (m : ℕ) → ShareNoMore k (in_force k views') (requests_in views' u) m
      → late_in c views' u + (first_of (u + 1) - (t + 1)) ≤ m =
      λ m most. omega (arith, lates u, one-late, share-yet m (fewer u m most)) in record {
        windows = λ w m most. dite (ℕ_discrete w u)
            (λ same.
            subst (λ (y : ℕ). AllowNoMore k (in_force k views') (requests_in views' y) m → dealt_in views' y ≤ m
            + returned_in views' y) (sym same) (λ most-here. omega (arith, windows-here m most-here)) most)
            (λ other. omega (
              arith,
              dealt w,
              within-other w t (λ (e : w ≡ window_of t). other (omega (arith, e, here))),
              o.given.windows w m (less w m most),
              g.returned w,
            ));
        shares = λ w m most. dite (ℕ_discrete w u)
            (λ same.
            subst (λ (y : ℕ). ShareNoMore k (in_force k views') (requests_in views' y) m → late_in c views' y ≤ m)
            (sym same) (λ most-here. omega (arith, shares-here m most-here)) most)
            (λ other. omega (arith, lates w, none-late w other, o.given.shares w m (fewer w m most)));
        windows_yet = λ w m near most.
            subst (λ (y : ℕ). AllowNoMore k (in_force k views') (requests_in views' y) m → dealt_in views' y
            + (first_of (y + 1) - (t + 1)) ≤ m + returned_in views' y) (sym (is-it w near)) (windows-here m) most;
        shares_yet = λ w m near most.
            subst (λ (y : ℕ). ShareNoMore k (in_force k views') (requests_in views' y) m
            → late_in c views' y + (first_of (y + 1) - (t + 1)) ≤ m) (sym (is-it w near)) (shares-here m) most;
        begun = λ w near some-window. subst (λ (y : ℕ). 0 < y → 0 < begins views' y) (sym (is-it w near))
            (λ some-here. omega (arith, begun some-here, g.starts u)) some-window;
      }

  -- where draws have come to those carried to a window, the next one of these is within the terms of the one before
  given-next : (x : Words) (views : List View) (id : ℕ) (v : View) (u : ℕ) → IsOrderly k x views
      → get_elem? views id ≡ some v → x.carries ≡ true
      → first_of (u + 1) - x.drawn < 2147483648 → x.drawn < first_of (u + 1)
      → IsGiven k x.carries (x.drawn + 1) (set views id (with_ticket v x.drawn)) × (0 < u → 0 < begins views u)
  given-next x views id v u o at carries near low =
      let own : own_numbers x.carries ≡ 2147483648 = ap own_numbers carries in
      let late : AreLate x.carries x.drawn u = (omega (arith, own, near), omega (arith, low)) in (
        given-late x views id v x.drawn u o at carries (omega arith) (omega (arith, near)) low
            (λ m. o.given.windows_yet u m late) (λ m. o.given.shares_yet u m late) (o.given.begun u late),
        o.given.begun u late,
      )

  -- where they have not, the first one is
  given-first : (x : Words) (views : List View) (id : ℕ) (v : View) (u m : ℕ) → IsOrderly k x views
      → get_elem? views id ≡ some v → 0 < v.weight → x.carries ≡ true
      → 2147483648 ≤ first_of (u + 1) - x.drawn → 0 < m
      → m ≡ left_of (terms_of k v.current) (back_in v.past (u + 1)) (x.drawn - first_of u)
      → IsGiven k x.carries (first_of (u + 1) - m + 1) (set views id (with_ticket v (first_of (u + 1) - m)))
      × (0 < u → 0 < begins views u)
  given-first x views id v u m o at live carries far some-left is =
      let c : Bool = x.carries in
      let own : own_numbers c ≡ 2147483648 = ap own_numbers carries in
      let late : late_numbers c ≡ 2147483648 = ap late_numbers carries in
      let a : ℕ = first_of (u + 1) in
      let q : ℕ = back_in v.past (u + 1) in
      let R : ℕ = requests_in views u in
      let s : ℕ = v.current % 1048576 in
      let j : Terms = terms_of k v.current in
      let f = o.each id v at in
      let before-it : u + 1 - 1 ≡ u = omega arith in
      let noted : q ≤ R = omega (
        arith,
        back_in-le v.past (u + 1) (λ w. requests_in views (w - 1)) f.past.counted,
        ap (requests_in views) before-it,
      ) in
      let begun : 0 < u → 0 < begins views u = λ some-window. dite (ℕ_discrete (window_of v.past) (u + 1))
      (λ same. subst (λ (y : ℕ). 0 < begins views y) (omega (arith, same))
      (f.past.begun (omega (arith, same, some-window))))
      (λ other.
      let none : q ≡ 0 = ap (λ b. cond b (v.past % 4294967296) 0) (ne_eqb (window_of v.past) (u + 1) other) in
      absurd (omega (arith, is, some-left, ap (λ (y : ℕ). (s * y) / 1000) none))) in
      let h : ℕ → ℕ = within (first_of u) 4294967296 in
      let l : ℕ → ℕ = within (first_of u + own_numbers c) (late_numbers c) in
      let dealt : dealt_in views u ≤ x.drawn - first_of u =
      omega (arith, all-dealt views u, o.dealt.once h, below-within (first_of u) 4294967296 x.drawn) in
      let none-late : late_in c views u ≡ 0 = omega
      (arith, o.dealt.once l, below-within (first_of u + own_numbers c) (late_numbers c) x.drawn, own, far) in
      let force = f.force live in (
        given-late x views id v (a - m) u o at carries (omega (arith, is, far)) (omega (arith, is))
            (omega (arith, some-left))
            (λ n most. omega (arith, dealt, is, some-left, allowed-mono j q R noted, most v.current force))
            (λ n most. omega (arith, none-late, is, share-mono s q R noted, most v.current force)) begun,
        begun,
      )

  -- the next ticket is of the latest window, or is carried to it
  wins-to : (x : Words) (views : List View) (id : ℕ) (v : View)
      → IsOrderly k x views → get_elem? views id ≡ some v → 0 < v.weight → x.drawn ≡ v.found
      → next_ticket v < floor_of v.carries (terms_of k v.current) v.seen v.back
      → IsOrderly k (record x { drawn = next_ticket v + 1; window = window_of v.seen })
      (set views id (with_ticket v (next_ticket v)))
  wins-to x views id v o at live here room =
      let t : ℕ = next_ticket v in
      let n : ℕ = window_of v.seen in
      let a : ℕ = first_of n in
      let d : ℕ = x.drawn in
      let f = o.each id v at in
      let kind : v.carries ≡ x.carries = f.kind live in
      let m : ℕ = carried_by v in
      let few : m ≤ late_numbers x.carries = omega
      (arith, few-carried v.carries (terms_of v.terms v.current) v.seen v.past v.found, ap late_numbers kind) in
      let is-next : t ≡ max d (a - m) = omega (arith, here) in
      let same-room : floor_of v.carries (terms_of k v.current) v.seen v.back
      ≡ floor_of x.carries (terms_of k v.current) v.seen v.back =
      ap (λ (z : Bool). floor_of z (terms_of k v.current) v.seen v.back) kind in
      let low-room : t < floor_of x.carries (terms_of k v.current) v.seen v.back = omega (arith, room, same-room) in
      dite (dec_le a t)
      (λ own. deals-to x views id v t m o at live (sym here) is-next (omega (arith, own)) (omega (arith, low-room))
      (given-own x views id v t o at live (omega (arith, is-next)) own low-room)
      (λ some-window. subst (λ (y : ℕ). 0 < begins views y) (omega (arith, own, low-room, both-numbers x.carries))
      (f.begun (omega (arith, own, low-room, both-numbers x.carries, some-window)))))
      (λ not.
      let less : t < a = lt_of_not-le not in
      let carries : x.carries ≡ true = late-carries x.carries (omega (arith, few, is-next, less)) in
      let u : ℕ = n - 1 in
      let up : n ≡ u + 1 = omega (arith, less) in
      let top : a ≡ first_of (u + 1) = ap first_of up in
      let by : m ≡ carried_to true (terms_of k v.current) v.seen v.past d =
      ap (λ (z : Bool). carried_to z (terms_of v.terms v.current) v.seen v.past v.found) (kind ∙ carries)
      ∙ ap (λ (z : Terms). carried_to true (terms_of z v.current) v.seen v.past v.found) (f.live live)
      ∙ ap (carried_to true (terms_of k v.current) v.seen v.past) (sym here) in
      let given : IsGiven k x.carries (t + 1) (set views id (with_ticket v t)) × (0 < u → 0 < begins views u) =
      dite (dec_le 2147483648 (a - d))
      (λ far.
      let is : m ≡ left_of (terms_of k v.current) (back_in v.past n) (d - first_of u) =
      by ∙ carried-first (terms_of k v.current) v.seen v.past d far in
      let first : t ≡ first_of (u + 1) - m = omega (arith, is-next, is, far, top) in
      subst (λ (y : ℕ). IsGiven k x.carries (y + 1) (set views id (with_ticket v y)) × (0 < u → 0 < begins views u))
      (sym first)
      (given-first x views id v u m o at live carries (omega (arith, far, top)) (omega (arith, is-next, less))
      (is ∙ ap (λ (y : ℕ). left_of (terms_of k v.current) (back_in v.past y) (d - first_of u)) up)))
      (λ close.
      let near : a - d < 2147483648 = lt_of_not-le close in
      let is : m ≡ a - d = by ∙ carried-late (terms_of k v.current) v.seen v.past d near in
      let next : t ≡ d = omega (arith, is-next, is, less) in
      subst (λ (y : ℕ). IsGiven k x.carries (y + 1) (set views id (with_ticket v y)) × (0 < u → 0 < begins views u))
      (sym next)
      (given-next x views id v u o at carries (omega (arith, near, top)) (omega (arith, next, less, top)))) in
      let late : late_numbers x.carries ≡ 2147483648 = ap late_numbers carries in
      let of-it : window_of t ≡ u = omega (arith, is-next, few, late, less, up) in
      deals-to x views id v t m o at live (sym here) is-next (omega (arith, is-next, few))
      (omega (arith, less, both-numbers x.carries)) given.0
      (λ some-window. subst (λ (y : ℕ). 0 < begins views y) (sym of-it) (given.1 (omega (arith, of-it, some-window)))))

  pub wins_ok : (n id : ℕ) (m : Sat) (st : Step ℕ) → 0 < m.0.weight
      → (st.first ≤ 17496587910722355200 → st.first ≡ m.0.found) → st.second ≡ next_ticket m.0 + 1
      → next_ticket m.0 < floor_of m.0.carries (terms_of k m.0.current) m.0.seen m.0.back
      → Allows (IsKept k) n id m 8 (λ x. either (x == st.first) st.second x) (wins st m)
  wins_ok n id m st live first second room =
      allows k n id m 8 (λ x. either (x == st.first) st.second x) (wins st m) (λ window latest kind ws views long o at.
      let v : View = m.0 in
      let t : ℕ = next_ticket v in
      let d : ℕ = slice_index ws 8 in
      let x : Words = words_at d window (slice_index ws 24) latest (slice_index ws 25) (slice_index ws 9)
      (slice_index ws 26) kind in
      let f = o.each id v at in
      let F : ℕ → Type 0 = λ y. (w : View)
      × ((homes : List (Option ℕ)) → IsKept k (record { words = set ws 8 y; homes = homes; views = set views id w }))
      × wins st m d (w, m.1) in
      exchanged d st.first st.second F
      (λ hit. (
        with_ticket v t,
        (λ homes.
            subst (λ (y : ℕ).
            IsKept k (record { words = set ws 8 y; homes = homes; views = set views id (with_ticket v t) }))
            (sym second)
            (kept-draws k ws (set views id (with_ticket v t)) homes (window_of v.seen) latest kind long (t + 1)
            (wins-to x views id v o at live (hit ∙ first (omega (arith, hit, drawn_le k x views o))) room))),
        (
          (λ _. (
            is_later kind d window views o.dealt id v t at
                (omega (arith, hit ∙ first (omega (arith, hit, drawn_le k x views o))))
                (omega (arith, asked_le k x views o, f.seen, both-numbers v.carries)),
            refl,
          )),
          λ miss. absurd (miss hit),
        ),
      ))
      (λ miss. dite (dec_le d v.found)
      (λ known. (
        v,
        (λ homes. kept-draws k ws (set views id v) homes window latest kind long d
            (told k x views id v v.current v.seen v.found v.back v.past v.readings v.glances v.recalls v.reviews v.looks
            v.losses o at f.force f.seen f.counted f.begun f.found f.given f.back f.came_back f.past)),
        ((λ hit. absurd (miss hit)), λ _. (f.found, (λ past. absurd (omega (arith, past, known))), λ _. refl)),
      ))
      (λ not. (
        with_loss v d,
        (λ homes. kept-draws k ws (set views id (with_loss v d)) homes window latest kind long d
            (told k x views id v v.current v.seen d v.back v.past v.readings v.glances v.recalls v.reviews v.looks
            (v.losses + 1) o at f.force f.seen f.counted f.begun (omega arith)
            (found_now k x views o id v at live) f.back f.came_back f.past)),
        (
          (λ hit. absurd (miss hit)),
          λ _. (f.found, (λ _. refl), λ same. absurd (omega (arith, same, lt_of_not-le not))),
        ),
      ))))
