-- Each step keeps the rule.
use Rattle.std.proofs.Common.{◌≡◌, ◌≢◌, ℕ, Bool, ◌+◌, ◌-◌, ◌%◌, ◌^◌, ◌<◌, ◌≤◌, max}
use Rattle.std.proofs.Common.{List, length, set, slice_index, sym, refl, ap, ◌∙◌, subst, arith, ⊎_elim, lt_of_not-le}
use Rattle.std.proofs.Common.{length-set}
use Rattle.std.proofs.Math.Nat.{mod-eq_of_lt}
use Rattle.std.proofs.lemmas.List.{get_or-set_same, get_or-set_other}
use mathlib.Core.Logic.{dite}
use mathlib.Core.Option.{Option, some}
use native.Mathlib.Decide.{dec_le}
use lib.ListN.{get_elem?}
use Rattle.atomic_table.specs.Table.{Step, keeps, Allows}
use Rattle.atomic_table.proofs.Lists.{at_set}
use Rattle.sched_ticket.specs.Lists.{total, below, times, is}
use Rattle.sched_ticket.proofs.Sums.{total-append, total-set, term_le, is-same}
use Rattle.sched_ticket_quota.specs.Windows.{window_of, first_of, AllowNoMore, ShareNoMore}
use Rattle.sched_ticket_quota.specs.Windows.{own_numbers, late_numbers, within}
use Rattle.sched_ticket_quota.specs.Windows.{count_in}
use Rattle.sched_ticket_quota.specs.View.{numbers, with_reading, with_glance, with_change, with_opening, with_requests}
use Rattle.sched_ticket_quota.specs.View.{with_found}
use Rattle.sched_ticket_quota.specs.View.{with_recall, with_review, with_note, with_asking}
use Rattle.sched_ticket_quota.specs.Rule.{ticket_weight, request_weight, tickets_in, returned_in, dealt_in, late_in}
use Rattle.sched_ticket_quota.specs.Rule.{requests_in, weights, may_count, openings, in_force, begins, IsDealt}
use Rattle.sched_ticket_quota.specs.Rule.{IsGiven, IsCounted, IsSeen, IsNoted, IsFound, Words, Fits, IsOrderly, IsKept}
use Rattle.sched_ticket_quota.specs.Whole.{IsWhole}
use Rattle.sched_ticket_quota.specs.Steps.{Sat, reads, glances, changes, opens, counts, finds, recalls, reviews}
use Rattle.sched_ticket_quota.specs.Steps.{notes, asks, learns}
use Rattle.sched_ticket_quota.specs.declared.view.Terms.{Terms}
use Rattle.sched_ticket_quota.specs.declared.view.View.{View}
use Rattle.sched_ticket_quota.proofs.Numbers.{allow-less, share-less}
use Rattle.sched_ticket_quota.proofs.Numbers.{below-mono}
use Rattle.sched_ticket_quota.proofs.Numbers.{below-numbers}
use Rattle.sched_ticket_quota.proofs.Counts.{may_count-yes, may_count-no, all_may_count, total-same, total-more}
use Rattle.sched_ticket_quota.proofs.Counts.{seen_at, begun_at, all-dealt, found_now, asked_le}
use Rattle.sched_ticket_quota.proofs.Counts.{no_later, is_sound}
use Rattle.sched_ticket_quota.proofs.Whole.{is_whole}

-- the draws fit where a view with the same tickets, out and handed back, takes another's place
pub dealt-same : (c : Bool) (d window : ℕ) (views : List View) (j : ℕ) (v w : View) → get_elem? views j ≡ some v
    → ((h : ℕ → ℕ) → ticket_weight h w ≡ ticket_weight h v) → IsDealt c d window views
    → IsDealt c d window (set views j w)
dealt-same c d window views j v w at same o =
    let sums : (h : ℕ → ℕ) → total (ticket_weight h) (set views j w) ≡ total (ticket_weight h) views = λ h.
    total-same (ticket_weight h) views j v w at (same h) in
    record {
      once = λ h. omega (arith, sums h, o.once h);
      all = λ h. omega (arith, sums h, o.all h);
      from = o.from;
      to = o.to;
      begun = o.begun;
    }

-- the requests fit where a view with the same requests takes another's place
pub counted-same : (q latest : ℕ) (views : List View) (j : ℕ) (v w : View) → get_elem? views j ≡ some v
    → w.requests ≡ v.requests → may_count w ≡ may_count v → w.opened ≡ v.opened
    → IsCounted q latest views → IsCounted q latest (set views j w)
counted-same q latest views j v w at same may opened o =
    let sums : (h : ℕ → ℕ) → total (request_weight h) (set views j w) ≡ total (request_weight h) views = λ h.
    total-same (request_weight h) views j v w at (ap (total h) same) in
    let sames : openings (set views j w) (first_of latest) ≡ openings views (first_of latest) = total-same
    (λ (u : View). times (first_of latest) u.opened) views j v w at (ap (times (first_of latest)) opened) in
    let small : total may_count (set views j w) ≡ total may_count views = total-same may_count views j v w at may in
    record {
      once = λ h. omega (arith, sums h, o.once h);
      all = λ h. omega (arith, sums h, o.all h);
      from = o.from;
      opened = λ some-window. omega (arith, o.opened some-window);
      small = omega (arith, o.small);
    }

-- the words with these numbers
abbrev pub words_at : ℕ → ℕ → ℕ → ℕ → ℕ → ℕ → ℕ → Bool → Words
words_at d window q latest c r p kind = record {
  drawn = d;
  window = window;
  asked = q;
  latest = latest;
  current = c;
  back = r;
  past = p;
  carries = kind;
}

-- these views have no less of anything than those
pub record Grows (k : Terms) (views views' : List View) : Type 0 where
  pub dealt : (w : ℕ) → dealt_in views w ≤ dealt_in views' w
  pub returned : (w : ℕ) → returned_in views w ≤ returned_in views' w
  pub requests : (w : ℕ) → requests_in views w ≤ requests_in views' w
  pub starts : (w : ℕ) → begins views w ≤ begins views' w
  pub force : (x : ℕ) → in_force k views x ≤ in_force k views' x

module _ (k : Terms) where
  -- as many requests stay noted
  pub noted-on : (views views' : List View) (p : ℕ) → Grows k views views' → IsNoted views p → IsNoted views' p
  noted-on views views' p g noted = record {
    counted = omega (arith, noted.counted, g.requests (window_of p - 1));
    begun = λ later. omega (arith, noted.begun later, g.starts (window_of p - 1));
  }

  -- what windows give stays within their terms while none is dealt
  pub given-on : (c : Bool) (d : ℕ) (views views' : List View) → Grows k views views'
      → ((h : ℕ → ℕ) → total (ticket_weight h) views' ≡ total (ticket_weight h) views)
      → IsGiven k c d views → IsGiven k c d views'
  given-on c d views views' g sums given =
      let less : (w n : ℕ) → AllowNoMore k (in_force k views') (requests_in views' w) n
      → AllowNoMore k (in_force k views) (requests_in views w) n =
      λ w n. allow-less k (in_force k views) (in_force k views') (requests_in views w) (requests_in views' w) n
      (g.requests w) g.force in
      let fewer : (w n : ℕ) → ShareNoMore k (in_force k views') (requests_in views' w) n
      → ShareNoMore k (in_force k views) (requests_in views w) n =
      λ w n. share-less k (in_force k views) (in_force k views') (requests_in views w) (requests_in views' w) n
      (g.requests w) g.force in
      let dealt : (w : ℕ) → dealt_in views' w ≡ dealt_in views w = λ w.
      omega (arith, all-dealt views w, all-dealt views' w, sums (within (first_of w) 4294967296)) in
      let late : (w : ℕ) → late_in c views' w ≡ late_in c views w = λ w.
      sums (within (first_of w + own_numbers c) (late_numbers c)) in record {
        windows = λ w n most. omega (arith, dealt w, given.windows w n (less w n most), g.returned w);
        shares = λ w n most. omega (arith, late w, given.shares w n (fewer w n most));
        windows_yet = λ w n near most. omega (arith, dealt w, given.windows_yet w n near (less w n most), g.returned w);
        shares_yet = λ w n near most. omega (arith, late w, given.shares_yet w n near (fewer w n most));
        begun = λ w near some-window. omega (arith, given.begun w near some-window, g.starts w);
      }

  -- where one view has the same tickets as another, in whose place it is
  pub given-same : (c : Bool) (d : ℕ) (views : List View) (j : ℕ) (v w : View) → get_elem? views j ≡ some v
      → ((h : ℕ → ℕ) → ticket_weight h w ≡ ticket_weight h v)
      → Grows k views (set views j w) → IsGiven k c d views → IsGiven k c d (set views j w)
  given-same c d views j v w at same g =
      given-on c d views (set views j w) g (λ h. total-same (ticket_weight h) views j v w at (same h))

  -- a view fits while numbers grow
  pub Fits-on : (x x' : Words) (views views' : List View) (u : View) → Fits k x views u → x'.carries ≡ x.carries
      → x.drawn ≤ x'.drawn → x.asked ≤ x'.asked → x.back ≤ x'.back → x.past ≤ x'.past → Grows k views views'
      → Fits k x' views' u
  Fits-on x x' views views' u f same more-d more-q more-r more-p g = record {
    seen = omega (arith, f.seen);
    counted = omega (arith, f.counted, g.requests (window_of u.seen));
    begun = λ some-window. omega (arith, f.begun some-window, g.starts (window_of u.seen));
    found = omega (arith, f.found);
    given = λ w low high. omega (arith, f.given w low high, g.dealt w);
    back = omega (arith, f.back);
    came_back = omega (arith, f.came_back, g.returned (window_of u.back));
    past = noted-on views views' u.past g f.past;
    noted = omega (arith, f.noted, more-p);
    live = f.live;
    kind = λ live. f.kind live ∙ sym same;
    force = λ live. omega (arith, f.force live, g.force u.current);
    spent = f.spent;
  }

  -- a view that has no less takes another's place
  pub grows : (views : List View) (j : ℕ) (v w : View) → get_elem? views j ≡ some v
      → ((n : ℕ) → count_in n v.tickets + count_in n v.returned ≤ count_in n w.tickets + count_in n w.returned)
      → ((n : ℕ) → count_in n v.returned ≤ count_in n w.returned)
      → ((n : ℕ) → count_in n v.requests ≤ count_in n w.requests)
      → ((n : ℕ) → times n v.opened ≤ times n w.opened) → ((n : ℕ) → times n v.changes ≤ times n w.changes)
      → Grows k views (set views j w)
  grows views j v w at more-t more-b more-r more-o more-c =
      let many : (n : ℕ) → requests_in views n ≤ requests_in (set views j w) n = λ n.
      total-more (λ (u : View). count_in n u.requests) views j v w at (more-r n) in record {
        dealt = λ n. omega (
          arith,
          total-set (λ (u : View). count_in n u.tickets) views j v w at,
          total-set (λ (u : View). count_in n u.returned) views j v w at,
          more-t n,
        );
        returned = λ n. total-more (λ (u : View). count_in n u.returned) views j v w at (more-b n);
        requests = many;
        starts = λ n. omega (
          arith,
          total-more (λ (u : View). times (first_of n) u.opened) views j v w at (more-o (first_of n)),
          many (n - 1),
        );
        force = λ n. omega (arith, total-more (λ (u : View). times n u.changes) views j v w at (more-c n));
      }

  -- one view and the words change
  pub moved : (x x' : Words) (views : List View) (j : ℕ) (v w : View) → IsOrderly k x views → get_elem? views j ≡ some v
      → w.weight ≡ v.weight → x'.carries ≡ x.carries
      → IsDealt x'.carries x'.drawn x'.window (set views j w) → IsGiven k x'.carries x'.drawn (set views j w)
      → x.past ≤ x'.past → IsNoted (set views j w) x'.past → IsCounted x'.asked x'.latest (set views j w)
      → x.drawn ≤ x'.drawn → x.asked ≤ x'.asked → first_of x'.window ≤ x'.asked → x.back ≤ x'.back
      → Grows k views (set views j w) → 0 < in_force k (set views j w) x'.current
      → IsSeen (returned_in (set views j w)) x'.back → x'.back ≤ 17496587910722355200
      → ((n : ℕ) → 0 < n → 0 < tickets_in (set views j w) n → 0 < begins (set views j w) n)
      → (Fits k x' (set views j w) v → Fits k x' (set views j w) w) → IsOrderly k x' (set views j w)
  moved x x' views j v w o at weight kind dealt given more-p noted counted more-d more-q behind more-b g force came_back
      few_back entered fits = record {
        known = o.known;
        dealt = dealt;
        given = given;
        noted = noted;
        counted = counted;
        behind = behind;
        entered = entered;
        force = force;
        came_back = came_back;
        few_back = few_back;
        parts = total-same (λ (u : View). u.weight) views j v w at weight ∙ o.parts;
        each = λ by u there. ⊎_elim
            (λ (t : (by ≡ j) × (w ≡ u)). subst (Fits k x' (set views j w)) t.1
            (fits (Fits-on x x' views (set views j w) v (o.each j v at) kind more-d more-q more-b more-p g)))
            (λ (t : (by ≢ j) × (get_elem? views by ≡ some u)).
            Fits-on x x' views (set views j w) u (o.each by u t.1) kind more-d more-q more-b more-p g)
            (at_set views j by w u there);
      }

  -- no window has a first ticket where one view with as many takes another's place
  pub entered-same : (x : Words) (views : List View) (j : ℕ) (v w : View) → IsOrderly k x views
      → get_elem? views j ≡ some v → w.tickets ≡ v.tickets
      → Grows k views (set views j w) → (n : ℕ) → 0 < n → 0 < tickets_in (set views j w) n
      → 0 < begins (set views j w) n
  entered-same x views j v w o at same g n some-window given =
      let kept : tickets_in (set views j w) n ≡ tickets_in views n =
      total-same (λ (u : View). count_in n u.tickets) views j v w at (ap (count_in n) same) in
      omega (arith, o.entered n some-window (omega (arith, kept, given)), g.starts n)

  -- a step is allowed if it is at any words
  pub allows : (n id : ℕ) (m : Sat) (i : ℕ) (f : ℕ → ℕ) (then : ℕ → Sat → Type 0)
      → ((window latest : ℕ) (kind : Bool) (ws : List ℕ) (views : List View) → length ws ≡ 32
      → IsOrderly k
      (words_at (slice_index ws 8) window (slice_index ws 24) latest (slice_index ws 25) (slice_index ws 9)
      (slice_index ws 26) kind) views → get_elem? views id ≡ some m.0
      → (w : View)
      × ((homes : List (Option ℕ))
      → IsKept k (record { words = set ws i (f (slice_index ws i)); homes = homes; views = set views id w }))
      × then (slice_index ws i) (w, m.1))
      → Allows (IsKept k) n id m i f then
  allows n id m i f then go s kept wide at fits =
      let there = go kept.window kept.latest kept.carries s.words s.views kept.long kept.orderly at in
      (there.0, keeps, tt, there.1 s.homes, there.2)

  module _ (ws : List ℕ) (views : List View) (homes : List (Option ℕ)) (window latest : ℕ) (kind : Bool)
      (long : length ws ≡ 32) where
    -- the rule, where one word has become n
    kept-at : (i n d q c r p : ℕ) → d ≡ slice_index (set ws i n) 8 → q ≡ slice_index (set ws i n) 24
        → c ≡ slice_index (set ws i n) 25 → r ≡ slice_index (set ws i n) 9 → p ≡ slice_index (set ws i n) 26
        → IsOrderly k (words_at d window q latest c r p kind) views
        → IsKept k (record { words = set ws i n; homes = homes; views = views })
    kept-at i n d q c r p d-is q-is c-is r-is p-is o =
        let e : ℕ = slice_index (set ws i n) 24 in
        let f : ℕ = slice_index (set ws i n) 25 in
        let g : ℕ = slice_index (set ws i n) 9 in
        let h : ℕ = slice_index (set ws i n) 26 in record {
          window = window;
          latest = latest;
          carries = kind;
          long = length-set ws i n ∙ long;
          orderly = subst (λ (y : ℕ). IsOrderly k (words_at y window e latest f g h kind) views) d-is
              (subst (λ (y : ℕ). IsOrderly k (words_at d window y latest f g h kind) views) q-is
              (subst (λ (y : ℕ). IsOrderly k (words_at d window q latest y g h kind) views) c-is
              (subst (λ (y : ℕ). IsOrderly k (words_at d window q latest c y h kind) views) r-is
              (subst (λ (y : ℕ). IsOrderly k (words_at d window q latest c r y kind) views) p-is o))));
        }

    here-is : (i n : ℕ) → i < 32 → n ≡ slice_index (set ws i n) i
    here-is i n small = sym (get_or-set_same ws i n 0 (omega (arith, long, small)))

    there-is : (i j n : ℕ) → j ≢ i → slice_index ws j ≡ slice_index (set ws i n) j
    there-is i j n apart = sym (get_or-set_other ws i j n 0 apart)

    -- the rule, where the draws have become d, the requests q, the terms c, those that came back r, or the requests of
    -- the window before p
    pub kept-draws : (d : ℕ)
        → IsOrderly k
        (words_at d window (slice_index ws 24) latest (slice_index ws 25) (slice_index ws 9) (slice_index ws 26) kind)
        views → IsKept k (record { words = set ws 8 d; homes = homes; views = views })
    kept-draws d o =
        kept-at 8 d d (slice_index ws 24) (slice_index ws 25) (slice_index ws 9) (slice_index ws 26)
        (here-is 8 d (omega arith)) (there-is 8 24 d (λ e. omega arith)) (there-is 8 25 d (λ e. omega arith))
        (there-is 8 9 d (λ e. omega arith)) (there-is 8 26 d (λ e. omega arith)) o

    kept-requests : (q : ℕ)
        → IsOrderly k
        (words_at (slice_index ws 8) window q latest (slice_index ws 25) (slice_index ws 9) (slice_index ws 26) kind)
        views → IsKept k (record { words = set ws 24 q; homes = homes; views = views })
    kept-requests q o =
        kept-at 24 q (slice_index ws 8) q (slice_index ws 25) (slice_index ws 9) (slice_index ws 26)
        (there-is 24 8 q (λ e. omega arith)) (here-is 24 q (omega arith)) (there-is 24 25 q (λ e. omega arith))
        (there-is 24 9 q (λ e. omega arith)) (there-is 24 26 q (λ e. omega arith)) o

    kept-terms : (c : ℕ)
        → IsOrderly k
        (words_at (slice_index ws 8) window (slice_index ws 24) latest c (slice_index ws 9) (slice_index ws 26) kind)
        views → IsKept k (record { words = set ws 25 c; homes = homes; views = views })
    kept-terms c o =
        kept-at 25 c (slice_index ws 8) (slice_index ws 24) c (slice_index ws 9) (slice_index ws 26)
        (there-is 25 8 c (λ e. omega arith)) (there-is 25 24 c (λ e. omega arith)) (here-is 25 c (omega arith))
        (there-is 25 9 c (λ e. omega arith)) (there-is 25 26 c (λ e. omega arith)) o

    pub kept-back : (r : ℕ)
        → IsOrderly k
        (words_at (slice_index ws 8) window (slice_index ws 24) latest (slice_index ws 25) r (slice_index ws 26) kind)
        views → IsKept k (record { words = set ws 9 r; homes = homes; views = views })
    kept-back r o =
        kept-at 9 r (slice_index ws 8) (slice_index ws 24) (slice_index ws 25) r (slice_index ws 26)
        (there-is 9 8 r (λ e. omega arith)) (there-is 9 24 r (λ e. omega arith)) (there-is 9 25 r (λ e. omega arith))
        (here-is 9 r (omega arith)) (there-is 9 26 r (λ e. omega arith)) o

    kept-past : (p : ℕ)
        → IsOrderly k
        (words_at (slice_index ws 8) window (slice_index ws 24) latest (slice_index ws 25) (slice_index ws 9) p kind)
        views → IsKept k (record { words = set ws 26 p; homes = homes; views = views })
    kept-past p o =
        kept-at 26 p (slice_index ws 8) (slice_index ws 24) (slice_index ws 25) (slice_index ws 9) p
        (there-is 26 8 p (λ e. omega arith)) (there-is 26 24 p (λ e. omega arith)) (there-is 26 25 p (λ e. omega arith))
        (there-is 26 9 p (λ e. omega arith)) (here-is 26 p (omega arith)) o

  -- a pass has learnt the words, and all else is as it was
  pub told : (x : Words) (views : List View) (id : ℕ) (v : View)
      (current seen found back past readings glances recalls reviews looks losses : ℕ)
      → IsOrderly k x views → get_elem? views id ≡ some v → (0 < v.weight → 0 < in_force k views current)
      → seen ≤ x.asked → IsSeen (requests_in views) seen → (0 < window_of seen → 0 < begins views (window_of seen))
      → found ≤ x.drawn → IsFound v.carries (dealt_in views) found
      → back ≤ x.back → IsSeen (returned_in views) back → IsNoted views past
      → IsOrderly k x
      (set views id (record v {
        current = current;
        seen = seen;
        found = found;
        back = back;
        past = past;
        readings = readings;
        glances = glances;
        recalls = recalls;
        reviews = reviews;
        looks = looks;
        losses = losses;
      }))
  told x views id v current seen found back past readings glances recalls reviews looks losses o at force seen_le
      is_seen begun found_le is_found back_le is_back is_noted =
      let w : View = record v {
        current = current;
        seen = seen;
        found = found;
        back = back;
        past = past;
        readings = readings;
        glances = glances;
        recalls = recalls;
        reviews = reviews;
        looks = looks;
        losses = losses;
      } in
      let g = grows views id v w at (λ n. omega arith) (λ n. omega arith) (λ n. omega arith) (λ n. omega arith)
      (λ n. omega arith) in
      moved x x views id v w o at refl refl
      (dealt-same x.carries x.drawn x.window views id v w at (λ h. refl) o.dealt)
      (given-same x.carries x.drawn views id v w at (λ h. refl) g o.given) (omega arith)
      (noted-on views (set views id w) x.past g o.noted)
      (counted-same x.asked x.latest views id v w at refl refl refl o.counted)
      (omega arith) (omega arith) o.behind (omega arith) g (omega (arith, o.force, g.force x.current))
      (omega (arith, o.came_back, g.returned (window_of x.back))) o.few_back (entered-same x views id v w o at refl g)
      (λ f. record {
        seen = seen_le;
        counted = omega (arith, is_seen, g.requests (window_of seen));
        begun = λ some-window. omega (arith, begun some-window, g.starts (window_of seen));
        found = found_le;
        given = λ n low high. omega (arith, is_found n low high, g.dealt n);
        back = back_le;
        came_back = omega (arith, is_back, g.returned (window_of back));
        past = noted-on views (set views id w) past g is_noted;
        noted = f.noted;
        live = f.live;
        kind = f.kind;
        force = λ live. omega (arith, force live, g.force current);
        spent = f.spent;
      })

  pub reads_ok : (n id : ℕ) (m : Sat) (st : Step ℕ) → 0 < m.0.weight → Allows (IsKept k) n id m 24 (λ x. x) (reads st m)
  reads_ok n id m st live = allows n id m 24 (λ x. x) (reads st m) (λ window latest kind ws views long o at.
      let v : View = m.0 in
      let q : ℕ = slice_index ws 24 in
      let x : Words = words_at (slice_index ws 8) window q latest (slice_index ws 25) (slice_index ws 9)
      (slice_index ws 26) kind in
      let f = o.each id v at in (
        with_reading v q,
        (λ homes. kept-requests ws (set views id (with_reading v q)) homes window latest kind long q
            (told x views id v v.current q v.found v.back v.past
            (v.readings + 1) v.glances v.recalls v.reviews v.looks v.losses o at f.force (omega arith)
            (seen_at q latest views o.counted)
            (begun_at q latest views o.counted) f.found f.given f.back f.came_back f.past)),
        ((f.seen, asked_le k x views o), no_later k x views o id v at live, refl),
      ))

  pub glances_ok : (n id : ℕ) (m : Sat) (st : Step ℕ) → Allows (IsKept k) n id m 25 (λ x. x) (glances st m)
  glances_ok n id m st = allows n id m 25 (λ x. x) (glances st m) (λ window latest kind ws views long o at.
      let v : View = m.0 in
      let c : ℕ = slice_index ws 25 in
      let x : Words = words_at (slice_index ws 8) window (slice_index ws 24) latest c (slice_index ws 9)
      (slice_index ws 26) kind in
      let f = o.each id v at in (
        with_glance v c,
        (λ homes. kept-terms ws (set views id (with_glance v c)) homes window latest kind long c
            (told x views id v c v.seen v.found v.back v.past v.readings (v.glances + 1) v.recalls v.reviews v.looks
            v.losses o at (λ live. o.force) f.seen f.counted f.begun f.found f.given f.back f.came_back f.past)),
        refl,
      ))

  pub changes_ok : (n id : ℕ) (m : Sat) (st : Step ℕ) (c : ℕ) → 0 < m.0.weight
      → Allows (IsKept k) n id m 25 (λ x. c) (λ x n. changes st m c n)
  changes_ok n id m st c live =
      allows n id m 25 (λ x. c) (λ x n. changes st m c n) (λ window latest kind ws views long o at.
      let v : View = m.0 in
      let x : Words = words_at (slice_index ws 8) window (slice_index ws 24) latest (slice_index ws 25)
      (slice_index ws 9) (slice_index ws 26) kind in
      let x' : Words = words_at (slice_index ws 8) window (slice_index ws 24) latest c (slice_index ws 9)
      (slice_index ws 26) kind in
      let w : View = with_change v c in
      let g = grows views id v w at (λ n. omega arith) (λ n. omega arith) (λ n. omega arith) (λ n. omega arith)
      (λ n. omega arith) in
      let one : is c c ≡ 1 = is-same c c refl in
      let set-now : 0 < in_force k (set views id w) c =
      omega (arith, total-set (λ (u : View). times c u.changes) views id v w at) in (
        w,
        (λ homes. kept-terms ws (set views id w) homes window latest kind long c
            (moved x x' views id v w o at refl refl
            (dealt-same x.carries x.drawn window views id v w at (λ h. refl) o.dealt)
            (given-same x.carries x.drawn views id v w at (λ h. refl) g o.given) (omega arith)
            (noted-on views (set views id w) x.past g o.noted)
            (counted-same x.asked latest views id v w at refl refl refl o.counted)
            (omega arith) (omega arith) o.behind (omega arith) g set-now
            (omega (arith, o.came_back, g.returned (window_of x.back))) o.few_back
            (entered-same x views id v w o at refl g)
            (λ f. record {
              seen = f.seen;
              counted = f.counted;
              begun = f.begun;
              found = f.found;
              given = f.given;
              back = f.back;
              came_back = f.came_back;
              past = f.past;
              noted = f.noted;
              live = f.live;
              kind = f.kind;
              force = λ _. set-now;
              spent = λ none. absurd (omega arith);
            }))),
        refl,
      ))

  pub finds_ok : (n id : ℕ) (m : Sat) (st : Step ℕ) → 0 < m.0.weight → Allows (IsKept k) n id m 8 (λ x. x) (finds st m)
  finds_ok n id m st live = allows n id m 8 (λ x. x) (finds st m) (λ window latest kind ws views long o at.
      let v : View = m.0 in
      let d : ℕ = slice_index ws 8 in
      let x : Words = words_at d window (slice_index ws 24) latest (slice_index ws 25) (slice_index ws 9)
      (slice_index ws 26) kind in
      let f = o.each id v at in (
        with_found v d,
        (λ homes. kept-draws ws (set views id (with_found v d)) homes window latest kind long d
            (told x views id v v.current v.seen d v.back v.past v.readings v.glances v.recalls v.reviews
            (v.looks + 1) 0 o at f.force f.seen f.counted f.begun (omega arith)
            (found_now k x views o id v at live) f.back f.came_back f.past)),
        (f.found, refl),
      ))

  pub learns_ok : (n id : ℕ) (m : Sat) (st : Step ℕ) → Allows (IsKept k) n id m 8 (λ x. x) (learns st m)
  learns_ok n id m st = allows n id m 8 (λ x. x) (learns st m) (λ window latest kind ws views long o at.
      let v : View = m.0 in
      let d : ℕ = slice_index ws 8 in
      let x : Words = words_at d window (slice_index ws 24) latest (slice_index ws 25) (slice_index ws 9)
      (slice_index ws 26) kind in
      let f = o.each id v at in (
        v,
        (λ homes. kept-draws ws (set views id v) homes window latest kind long d
            (told x views id v v.current v.seen v.found v.back v.past v.readings v.glances v.recalls v.reviews v.looks
            v.losses o at f.force f.seen f.counted f.begun f.found f.given f.back f.came_back f.past)),
        (
          refl,
          is_sound k x views o id v at,
          λ all. let live : 0 < v.weight = omega arith in
              subst (λ (t : Terms). IsWhole t v) (sym (f.live live)) (is_whole k x views o id v at all),
        ),
      ))

  -- a pass has opened a window, or found that another had
  opens-to : (x : Words) (views : List View) (id : ℕ) (v : View) (first q' latest' : ℕ)
      → IsOrderly k x views → get_elem? views id ≡ some v → x.asked ≤ q'
      → IsCounted q' latest' (set views id (with_opening v first q')) → IsSeen (requests_in views) q'
      → 0 < v.weight → IsOrderly k (record x { asked = q'; latest = latest' }) (set views id (with_opening v first q'))
  opens-to x views id v first q' latest' o at up counted is_seen live =
      let w : View = with_opening v first q' in
      let x' : Words = record x { asked = q'; latest = latest' } in
      let g = grows views id v w at (λ n. omega arith) (λ n. omega arith) (λ n. omega arith) (λ n. omega arith)
      (λ n. omega arith) in
      let behind = o.behind in
      moved x x' views id v w o at refl refl
      (dealt-same x.carries x.drawn x.window views id v w at (λ h. refl) o.dealt)
      (given-same x.carries x.drawn views id v w at (λ h. refl) g o.given) (omega arith)
      (noted-on views (set views id w) x.past g o.noted) counted
      (omega arith) up (omega arith) (omega arith) g (omega (arith, o.force, g.force x.current))
      (omega (arith, o.came_back, g.returned (window_of x.back))) o.few_back (entered-same x views id v w o at refl g)
      (λ f. record {
        seen = omega arith;
        counted = omega (arith, is_seen, g.requests (window_of q'));
        begun = begun_at q' latest' (set views id w) counted;
        found = f.found;
        given = f.given;
        back = f.back;
        came_back = f.came_back;
        past = f.past;
        noted = f.noted;
        live = f.live;
        kind = f.kind;
        force = f.force;
        spent = λ none. absurd (omega arith);
      })

  pub opens_ok : (n id : ℕ) (m : Sat) (st : Step ℕ) (next : ℕ) → 0 < m.0.weight → st.first ≡ first_of next
      → next ≤ 2999999999
      → Allows (IsKept k) n id m 24 (λ x. max x st.first) (opens st m)
  opens_ok n id m st next live is_first known =
      allows n id m 24 (λ x. max x st.first) (opens st m) (λ window latest kind ws views long o at.
      let v : View = m.0 in
      let a : ℕ = st.first in
      let q : ℕ = slice_index ws 24 in
      let q' : ℕ = max q a in
      let x : Words = words_at (slice_index ws 8) window q latest (slice_index ws 25) (slice_index ws 9)
      (slice_index ws 26) kind in
      let w : View = with_opening v a q' in
      let f = o.each id v at in
      let c = o.counted in
      let sums : (h : ℕ → ℕ) → total (request_weight h) (set views id w) ≡ total (request_weight h) views = λ h.
      total-same (request_weight h) views id v w at refl in
      let small : total may_count (set views id w) ≡ total may_count views =
      total-same may_count views id v w at refl in
      let few : total may_count views ≤ weights views = all_may_count views in
      let parts = o.parts in
      let kept : (latest' : ℕ) → IsCounted q' latest' (set views id w) → IsSeen (requests_in views) q'
      → (homes : List (Option ℕ)) → IsKept k (record { words = set ws 24 q'; homes = homes; views = set views id w }) =
      λ latest' counted is_seen homes. kept-requests ws (set views id w) homes window latest' kind long q'
      (opens-to x views id v a q' latest' o at (omega arith) counted is_seen live) in (
        w,
        dite (dec_le a q)
            (λ there.
            let same : q' ≡ q = omega arith in
            let more : openings views (first_of latest) ≤ openings (set views id w) (first_of latest) =
            total-more (λ (u : View). times (first_of latest) u.opened) views id v w at (omega arith) in
            kept latest (record {
              once = λ h. omega (arith, sums h, c.once h, ap (below h) same);
              all = λ h. omega (arith, sums h, c.all h, ap (below h) same);
              from = omega (arith, c.from);
              opened = λ some-window. omega (arith, c.opened some-window);
              small = omega (arith, c.small);
            }) (subst (IsSeen (requests_in views)) (sym same) (seen_at q latest views c)))
            (λ not.
            let up : q < a = lt_of_not-le not in
            let same : q' ≡ a = omega arith in
            let start : q' ≡ first_of next = same ∙ is_first in
            let opened : openings (set views id w) (first_of next) + times (first_of next) v.opened
            ≡ openings views (first_of next) + times (first_of next) w.opened =
            total-set (λ (u : View). times (first_of next) u.opened) views id v w at in
            let one : is (first_of next) a ≡ 1 = is-same (first_of next) a is_first in
            kept next (record {
              once = λ h. omega (arith, sums h, c.once h, below-mono h q q' (omega arith));
              all = λ h. omega (arith, ap (below h) start);
              from = omega arith;
              opened = λ some-window. omega arith;
              small = omega arith;
            }) (omega arith)),
        ((f.seen, asked_le k x views o), refl),
      ))

  pub counts_ok : (n id : ℕ) (m : Sat) (st : Step ℕ) → st.first ≤ m.0.weight → 0 < m.0.weight
      → m.0.told < 12884901888000000000
      → Allows (IsKept k) n id m 24 (λ x. (x + st.first) % 2 ^ 64) (counts st m)
  counts_ok n id m st few live may =
      allows n id m 24 (λ x. (x + st.first) % 2 ^ 64) (counts st m) (λ window latest kind ws views long o at.
      let v : View = m.0 in
      let c : ℕ = st.first in
      let q : ℕ = slice_index ws 24 in
      let x : Words = words_at (slice_index ws 8) window q latest (slice_index ws 25) (slice_index ws 9)
      (slice_index ws 26) kind in
      let x' : Words = words_at (slice_index ws 8) window (q + c) latest (slice_index ws 25) (slice_index ws 9)
      (slice_index ws 26) kind in
      let w : View = with_requests v q c in
      let f = o.each id v at in
      let o' = o.counted in
      let parts = o.parts in
      let room : q + c ≤ 17496587906427387904 =
      omega (arith, o'.small, may_count-yes v may, term_le may_count views id v at) in
      let word : (q + c) % 2 ^ 64 ≡ q + c = mod-eq_of_lt (omega arith) in
      let sums : (h : ℕ → ℕ)
      → total (request_weight h) (set views id w) ≡ total (request_weight h) views + total h (numbers q c) = λ h.
      omega (arith, total-set (request_weight h) views id v w at, total-append h (numbers q c) v.requests) in
      let opened : openings (set views id w) (first_of latest) ≡ openings views (first_of latest) =
      total-same (λ (u : View). times (first_of latest) u.opened) views id v w at refl in
      let may-sum : total may_count (set views id w) + may_count v ≡ total may_count views + may_count w =
      total-set may_count views id v w at in
      let same : weights (set views id w) ≡ weights views = total-same (λ (u : View). u.weight) views id v w at refl in
      let counted : IsCounted (q + c) latest (set views id w) = record {
        once = λ h. omega (arith, sums h, o'.once h, below-numbers h q c);
        all = λ h. omega (arith, sums h, o'.all h, below-numbers h q c);
        from = omega (arith, o'.from);
        opened = λ some-window. omega (arith, o'.opened some-window);
        small = dite (dec_le 12884901888000000000 (q + c))
            (λ full. omega (arith, o'.small, may_count-yes v may, may_count-no w full))
            (λ not. omega (arith, all_may_count (set views id w), lt_of_not-le not));
      } in
      let behind = o.behind in
      let g =
      grows views id v w at (λ n. omega arith) (λ n. omega arith)
      (λ n. omega (arith, total-append (within (first_of n) 4294967296) (numbers q c) v.requests)) (λ n. omega arith)
      (λ n. omega arith) in
      let orderly : IsOrderly k x' (set views id w) =
      moved x x' views id v w o at refl refl
      (dealt-same x.carries x.drawn window views id v w at (λ h. refl) o.dealt)
      (given-same x.carries x.drawn views id v w at (λ h. refl) g o.given) (omega arith)
      (noted-on views (set views id w) x.past g o.noted) counted
      (omega arith) (omega arith) (omega arith) (omega arith) g (omega (arith, o.force, g.force x.current))
      (omega (arith, o.came_back, g.returned (window_of x.back))) o.few_back (entered-same x views id v w o at refl g)
      (λ f. record {
        seen = omega arith;
        counted = seen_at (q + c) latest (set views id w) counted;
        begun = begun_at (q + c) latest (set views id w) counted;
        found = f.found;
        given = f.given;
        back = f.back;
        came_back = f.came_back;
        past = f.past;
        noted = f.noted;
        live = f.live;
        kind = f.kind;
        force = f.force;
        spent = λ none. absurd (omega arith);
      }) in (
        w,
        (λ homes. subst
            (λ (y : ℕ). IsKept k (record { words = set ws 24 y; homes = homes; views = set views id w })) (sym word)
            (kept-requests ws (set views id w) homes window latest kind long (q + c) orderly)),
        (f.seen, room, refl),
      ))

  pub recalls_ok : (n id : ℕ) (m : Sat) (st : Step ℕ) → Allows (IsKept k) n id m 9 (λ x. x) (recalls st m)
  recalls_ok n id m st = allows n id m 9 (λ x. x) (recalls st m) (λ window latest kind ws views long o at.
      let v : View = m.0 in
      let r : ℕ = slice_index ws 9 in
      let x : Words = words_at (slice_index ws 8) window (slice_index ws 24) latest (slice_index ws 25) r
      (slice_index ws 26) kind in
      let f = o.each id v at in (
        with_recall v r,
        (λ homes. kept-back ws (set views id (with_recall v r)) homes window latest kind long r
            (told x views id v v.current v.seen v.found r v.past v.readings v.glances (v.recalls + 1) v.reviews v.looks
            v.losses o at f.force f.seen f.counted f.begun f.found f.given (omega arith) o.came_back f.past)),
        (f.back, refl),
      ))

  pub reviews_ok : (n id : ℕ) (m : Sat) (st : Step ℕ) → Allows (IsKept k) n id m 26 (λ x. x) (reviews st m)
  reviews_ok n id m st = allows n id m 26 (λ x. x) (reviews st m) (λ window latest kind ws views long o at.
      let v : View = m.0 in
      let p : ℕ = slice_index ws 26 in
      let x : Words = words_at (slice_index ws 8) window (slice_index ws 24) latest (slice_index ws 25)
      (slice_index ws 9) p kind in
      let f = o.each id v at in (
        with_review v p,
        (λ homes. kept-past ws (set views id (with_review v p)) homes window latest kind long p
            (told x views id v v.current v.seen v.found v.back p v.readings v.glances v.recalls (v.reviews + 1) v.looks
            v.losses o at f.force f.seen f.counted f.begun f.found f.given f.back f.came_back o.noted)),
        (f.noted, refl),
      ))

  -- the requests that a pass has seen are noted for the window after theirs
  pub notes_ok : (n id : ℕ) (m : Sat) (st : Step ℕ) (w : ℕ) → window_of m.0.seen + 1 ≡ w
      → st.first ≡ first_of w + m.0.seen % 4294967296
      → Allows (IsKept k) n id m 26 (λ x. max x st.first) (notes st m)
  notes_ok n id m st w next noted =
      allows n id m 26 (λ x. max x st.first) (notes st m) (λ window latest kind ws views long o at.
      let v : View = m.0 in
      let p : ℕ = slice_index ws 26 in
      let p' : ℕ = max p st.first in
      let x : Words = words_at (slice_index ws 8) window (slice_index ws 24) latest (slice_index ws 25)
      (slice_index ws 9) p kind in
      let x' : Words = record x { past = p' } in
      let u : View = with_note v st.first in
      let f = o.each id v at in
      let g = grows views id v u at (λ n. omega arith) (λ n. omega arith) (λ n. omega arith) (λ n. omega arith)
      (λ n. omega arith) in
      let here : window_of st.first ≡ w = omega (arith, noted) in
      let of-it : window_of st.first - 1 ≡ window_of v.seen = omega (arith, here, next) in
      let is-noted : IsNoted views st.first = record {
        counted = omega (arith, noted, here, f.counted, ap (requests_in views) of-it);
        begun = λ later. subst (λ (y : ℕ). 0 < begins views y) (sym of-it) (f.begun (omega (arith, of-it, later)));
      } in
      let still : IsNoted views p' = dite (dec_le st.first p)
      (λ more. let same : p ≡ p' = omega (arith, more) in subst (IsNoted views) same o.noted)
      (λ not. let same : st.first ≡ p' = omega (arith, lt_of_not-le not) in subst (IsNoted views) same is-noted) in (
        u,
        (λ homes. kept-past ws (set views id u) homes window latest kind long p'
            (moved x x' views id v u o at refl refl
            (dealt-same kind x.drawn window views id v u at (λ h. refl) o.dealt)
            (given-same kind x.drawn views id v u at (λ h. refl) g o.given) (omega arith)
            (noted-on views (set views id u) p' g still)
            (counted-same x.asked latest views id v u at refl refl refl o.counted)
            (omega arith) (omega arith) o.behind (omega arith) g (omega (arith, o.force, g.force x.current))
            (omega (arith, o.came_back, g.returned (window_of x.back))) o.few_back
            (entered-same x views id v u o at refl g)
            (λ f. record {
              seen = f.seen;
              counted = f.counted;
              begun = f.begun;
              found = f.found;
              given = f.given;
              back = f.back;
              came_back = f.came_back;
              past = f.past;
              noted = omega arith;
              live = f.live;
              kind = f.kind;
              force = f.force;
              spent = f.spent;
            }))),
        refl,
      ))

  pub asks_ok : (n id : ℕ) (m : Sat) (st : Step ℕ) → Allows (IsKept k) n id m 9 (λ x. x) (asks st m)
  asks_ok n id m st = allows n id m 9 (λ x. x) (asks st m) (λ window latest kind ws views long o at.
      let v : View = m.0 in
      let r : ℕ = slice_index ws 9 in
      let x : Words = words_at (slice_index ws 8) window (slice_index ws 24) latest (slice_index ws 25) r
      (slice_index ws 26) kind in
      let f = o.each id v at in (
        with_asking v r,
        (λ homes. kept-back ws (set views id (with_asking v r)) homes window latest kind long r
            (told x views id v v.current v.seen v.found r v.past v.readings v.glances (v.recalls + 1) v.reviews v.looks
            0 o at f.force f.seen f.counted f.begun f.found f.given (omega arith) o.came_back f.past)),
        (f.back, refl),
      ))
