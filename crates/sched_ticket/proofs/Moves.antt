-- Each step keeps the rule.
use Rattle.std.proofs.Common.{◌≡◌, ◌≢◌, ℕ, ◌+◌, ◌-◌, ◌%◌, ◌^◌, ◌<◌, ◌≤◌, ◌==◌, max, false, true, List, []}
use Rattle.std.proofs.Common.{◌∷◌, ◌++◌, length, set, slice_index, cond, sym, refl, ap, ◌∙◌, subst, arith, ⊎_elim}
use Rattle.std.proofs.Common.{lt_of_not-le, length-append}
use Rattle.std.proofs.Math.Nat.{mod-eq_of_lt, le-max_left}
use mathlib.Core.Logic.{dite}
use mathlib.Core.Option.{Option, some}
use native.Mathlib.Decide.{ℕ_discrete, dec_le}
use prog.Atomic.{either}
use lib.ListN.{get_elem?}
use Rattle.atomic_table.specs.Table.{Step, Act, keeps, Valid, carried_after, stepped, Allows, Splits, Joins}
use Rattle.atomic_table.proofs.Lists.{at_set, set_else, exchanged}
use Rattle.sched_ticket.specs.Lists.{total, below, Each}
use Rattle.sched_ticket.specs.Parts.{all_parts}
use Rattle.sched_ticket.specs.View.{refusal, first_weight, first_view, with_ticket, with_refusal, with_found}
use Rattle.sched_ticket.specs.View.{with_floor, with_raise, with_mark, with_refused_split, with_part, given}
use Rattle.sched_ticket.specs.View.{without_part, part_of, joined_view, blank_view}
use Rattle.sched_ticket.specs.Rule.{drawn_at, made_at, limit_at, laid, used_up, number_weight, weights, splits}
use Rattle.sched_ticket.specs.Rule.{refused_splits, IsMarked, IsRefusal, Fits, IsOrderly, IsKept}
use Rattle.sched_ticket.specs.Whole.{IsWhole, IsOneOfSeveral}
use Rattle.sched_ticket.specs.Steps.{Sat, IsTold, draws, finds, wins, counts, learns, looks, reads_limit, raises}
use Rattle.sched_ticket.specs.declared.view.Terms.{Terms}
use Rattle.sched_ticket.specs.declared.view.Refusal.{Refusal}
use Rattle.sched_ticket.specs.declared.view.Mark.{Mark}
use Rattle.sched_ticket.specs.declared.view.Mark.TheVariants.{Unseen, Sole, Shared}
use Rattle.sched_ticket.specs.declared.view.View.{View}
use Rattle.sched_ticket.proofs.Sums.{total-append, total-set, term_le, terms_le, rest_le, Each-append, Each-map}
use Rattle.sched_ticket.proofs.Sums.{below_more, each-only, each-split, each-joined}
use Rattle.sched_ticket.proofs.Totals.{drawn_le, made_le, is_later, is_sound}
use Rattle.sched_ticket.proofs.Ways.{used_up-parts, used_up-counted, used_up-none, used_up-joined}
use Rattle.sched_ticket.proofs.Greatest.{greatest-append, greatest-raised, greatest-joined}
use Rattle.sched_ticket.proofs.Whole.{is_whole, is_one_of_several}

-- a mark stays true while another pass gets no lighter
IsMarked-on : (m : Mark) (all all' weight other : ℕ) → 0 < other → weight + other ≤ all → all ≤ all'
    → IsMarked all m weight → IsMarked all' m weight
IsMarked-on Unseen all all' weight other live room more h = tt
IsMarked-on Sole all all' weight other live room more h = absurd (omega arith)
IsMarked-on Shared all all' weight other live room more h = omega arith

-- a mark that is not sole stays true while the other passes get no lighter
IsMarked-less : (m : Mark) (all weight less : ℕ) → m ≢ Sole → less ≤ weight → IsMarked all m weight
    → IsMarked all m less
IsMarked-less Unseen all weight less n le h = tt
IsMarked-less Sole all weight less n le h = absurd (n refl)
IsMarked-less Shared all weight less n le h = omega arith

IsMarked-more : (m : Mark) (all weight : ℕ) → IsMarked all m weight → IsMarked (all + 1) m (weight + 1)
IsMarked-more Unseen all weight h = tt
IsMarked-more Sole all weight h = omega arith
IsMarked-more Shared all weight h = omega arith

module _ (k : Terms) where
  -- the refusals of a view stay true while the limit rises
  refusals-on : (limit limit' : ℕ) (xs : List Refusal) → limit ≤ limit' → Each (IsRefusal k limit) xs
      → Each (IsRefusal k limit') xs
  refusals-on limit limit' xs up h =
      Each-map (IsRefusal k limit) (IsRefusal k limit') (λ r t. (t.0, t.1, omega (arith, t.2))) xs h

  -- and its draws were as late while more is drawn
  late-on : (d d' : ℕ) (xs : List Refusal) → d ≤ d' → Each (λ (r : Refusal). r.number ≤ d) xs
      → Each (λ (r : Refusal). r.number ≤ d') xs
  late-on d d' xs up h =
      Each-map (λ (r : Refusal). r.number ≤ d) (λ (r : Refusal). r.number ≤ d') (λ r t. omega arith) xs h

  -- and so do its tickets while its floor rises
  tickets-on : (limit limit' : ℕ) (xs : List ℕ) → limit ≤ limit' → Each (λ t. t < limit) xs → Each (λ t. t < limit') xs
  tickets-on limit limit' xs up h = Each-map (λ t. t < limit) (λ t. t < limit') (λ x t. omega arith) xs h

  -- another pass's view still fits
  Fits-on : (d d' made made' limit limit' all all' other : ℕ) (u : View) → Fits k d made limit all u → d ≤ d'
      → made ≤ made' → limit ≤ limit' → all ≤ all' → 0 < other → u.weight + other ≤ all → Fits k d' made' limit' all' u
  Fits-on d d' made made' limit limit' all all' other u f later more up wide live room = record {
    tickets = f.tickets;
    refusals = refusals-on limit limit' u.refusals up f.refusals;
    late = late-on d d' u.refusals later f.late;
    found = omega (arith, f.found);
    floor = omega (arith, f.floor);
    live = f.live;
    spent = f.spent;
    few_refusals = f.few_refusals;
    few_refused_splits = f.few_refused_splits;
    too_many_made = λ h. omega (arith, f.too_many_made h);
    mark = IsMarked-on u.mark all all' u.weight other live room wide f.mark;
  }

  -- what the views stand for stays, or a counted pass is split off
  abbrev Stays : ℕ → ℕ → List View → View → View → Type 0
  Stays m m' views v w =
      (k.by_parts ≡ false → (weights views + w.weight ≤ 65536 + v.weight) × (w.splits + v.weight ≡ v.splits + w.weight))
      × (k.by_parts ≡ true → (w.weight ≡ v.weight) × (m' ≡ m))

  stays : (d m l : ℕ) (views : List View) (v w : View) → IsOrderly k d m l views → w.weight ≡ v.weight
      → w.splits ≡ v.splits → Stays m m views v w
  stays d m l views v w o weight split = ((λ by. (omega (arith, (o.passes by).1), omega arith)), λ by. (weight, refl))

  -- one view and the words change
  moved : (d m l : ℕ) (views : List View) (j : ℕ) (v w : View) (d' m' l' : ℕ)
      → IsOrderly k d m l views → get_elem? views j ≡ some v
      → 0 < v.weight → v.weight ≤ w.weight → Stays m m' views v w
      → ((h : ℕ → ℕ) → number_weight h w + below h d ≡ number_weight h v + below h d')
      → m' + v.weight + v.refused_splits ≡ m + w.weight + w.refused_splits
      → d ≤ d' → m ≤ m' → l ≤ l' → (k.rises ≡ false → l' ≡ k.limit) → l' ≤ 4294967296
      → (to : ℕ) → w.raised_to ≡ max v.raised_to to → l' ≡ max l to
      → (weights (set views j w) + v.weight ≡ weights views + w.weight → Fits k d' m' l' (weights (set views j w)) w)
      → IsOrderly k d' m' l' (set views j w)
  moved d m l views j v w d' m' l' o at live heavy ways numbers counted later more up fixed small to raised
      reached fits =
      let wide : weights (set views j w) + v.weight ≡ weights views + w.weight =
      total-set (λ (u : View). u.weight) views j v w at in
      let refused : refused_splits (set views j w) + v.refused_splits ≡ refused_splits views + w.refused_splits =
      total-set (λ (u : View). u.refused_splits) views j v w at in
      let split : splits (set views j w) + v.splits ≡ splits views + w.splits =
      total-set (λ (u : View). u.splits) views j v w at in
      record {
        numbers = λ h. omega (arith, total-set (number_weight h) views j v w at, o.numbers h, numbers h);
        counted = omega (arith, o.counted);
        passes = λ by. let p = o.passes by in let way = ways.0 by in (omega arith, omega arith);
        parts = λ by. let p = o.parts by in let way = ways.1 by in (omega arith, omega arith);
        limit_is =
            reached ∙ ap (λ (x : ℕ). max x to) o.limit_is ∙ sym (greatest-raised k.limit views j v w to at raised);
        rises = omega (arith, o.rises);
        fixed = fixed;
        small = small;
        each = λ by u there. ⊎_elim
            (λ (t : (by ≡ j) × (w ≡ u)). subst (Fits k d' m' l' (weights (set views j w))) t.1 (fits wide))
            (λ (t : (by ≢ j) × (get_elem? views by ≡ some u)). Fits-on d d' m m' l l' (weights views)
            (weights (set views j w)) v.weight u (o.each by u t.1) later more up (omega arith) live
            (omega (arith, terms_le (λ (x : View). x.weight) views j by v u t.0 at t.1)))
            (at_set views j by w u there);
      }

  -- a step is allowed if it is at each three words
  allows : (n id : ℕ) (m : Sat) (i : ℕ) (f : ℕ → ℕ) (then : ℕ → Sat → Type 0)
      → ((d made l : ℕ) (views : List View) → IsOrderly k d made l views → get_elem? views id ≡ some m.0
      → (w : View)
      × ((homes : List (Option ℕ))
      → IsKept k (record {
        words = set (laid d made l) i (f (slice_index (laid d made l) i));
        homes = homes;
        views = set views id w;
      })) × then (slice_index (laid d made l) i) (w, m.1))
      → Allows (IsKept k) n id m i f then
  allows n id m i f then go s kept wide at fits =
      let there = go kept.drawn kept.made kept.limit s.views kept.orderly at in
      let G : List ℕ → Type 0 = λ ws. (w : View) × (a : Act ℕ) × Valid s.homes m.1 a
      × IsKept k (stepped (record { words = ws; homes = s.homes; views = s.views }) i (f (slice_index ws i)) id m.1 w a)
      × then (slice_index ws i) (w, carried_after m.1 a) in
      subst G (sym kept.words) (there.0, keeps, tt, there.1 s.homes, there.2)

  kept : (d m l : ℕ) (views : List View) (homes : List (Option ℕ)) (ws : List ℕ) → ws ≡ laid d m l
      → IsOrderly k d m l views → IsKept k (record { words = ws; homes = homes; views = views })
  kept d m l views homes ws e o = record { drawn = d; made = m; limit = l; words = e; orderly = o }

  pub draws_ok : (n id : ℕ) (m : Sat) (st : Step ℕ) → 0 < m.0.weight → m.0.refusals ≡ [] → m.0.terms.by_parts ≡ false
      → Allows (IsKept k) n id m drawn_at (λ x. (x + 1) % 2 ^ 64) (draws st m)
  draws_ok n id m st live unrefused by =
      allows n id m drawn_at (λ x. (x + 1) % 2 ^ 64) (draws st m) (λ d made l views o at.
      let v : View = m.0 in
      let f : Fits k d made l (weights views) v = o.each id v at in
      let few = drawn_le k d made l views o in
      let word : laid ((d + 1) % 2 ^ 64) made l ≡ laid (d + 1) made l =
      ap (λ (x : ℕ). laid x made l) (mod-eq_of_lt (omega (arith, o.small))) in
      let next : (w : View) → v.weight ≡ w.weight → v.refused_splits ≡ w.refused_splits → v.splits ≡ w.splits
      → v.raised_to ≡ w.raised_to → ((h : ℕ → ℕ) → number_weight h w ≡ number_weight h v + h d)
      → (weights (set views id w) ≡ weights views → Fits k (d + 1) made l (weights (set views id w)) w)
      → (homes : List (Option ℕ))
      → IsKept k (record { words = laid ((d + 1) % 2 ^ 64) made l; homes = homes; views = set views id w }) =
      λ w same refused split raised more fits homes.
      kept (d + 1) made l (set views id w) homes (laid ((d + 1) % 2 ^ 64) made l) word
      (moved d made l views id v w (d + 1) made l o at live (omega arith)
      (stays d made l views v w o (sym same) (sym split)) (λ h. omega (arith, more h, below_more h d)) (omega arith)
      (omega arith) (omega arith) (omega arith) o.fixed o.small 0 (omega arith) (omega arith)
      (λ wide. fits (omega arith))) in
      let later = is_later k d made l views o id v at in
      dite (dec_le v.floor d)
      (λ high. (
        with_refusal v d,
        next (with_refusal v d) refl refl refl refl
            (λ h. omega (
              arith,
              ap (total (λ (r : Refusal). h r.number)) (used_up-counted (with_refusal v d) by),
              ap (total (λ (r : Refusal). h r.number)) (used_up-counted v by),
            ))
            (λ wide. record {
              tickets = f.tickets;
              refusals = (((f.live live).1, high, f.floor), f.refusals);
              late = (omega arith, late-on d (d + 1) v.refusals (omega arith) f.late);
              found = omega arith;
              floor = f.floor;
              live = f.live;
              spent = λ e. absurd (omega arith);
              few_refusals = omega (arith, ap length (used_up-counted (with_refusal v d) by), ap length unrefused);
              few_refused_splits = f.few_refused_splits;
              too_many_made = f.too_many_made;
              mark = subst (λ (all : ℕ). IsMarked all v.mark v.weight) (sym wide) f.mark;
            }),
        (later, (λ low. absurd (omega arith)), λ _. refl),
      ))
      (λ not. let low : d < v.floor = lt_of_not-le not in (
        with_ticket v d,
        next (with_ticket v d) refl refl refl refl (λ h. omega arith) (λ wide. record {
          tickets = (low, f.tickets);
          refusals = f.refusals;
          late = late-on d (d + 1) v.refusals (omega arith) f.late;
          found = omega arith;
          floor = f.floor;
          live = f.live;
          spent = λ e. absurd (omega arith);
          few_refusals = f.few_refusals;
          few_refused_splits = f.few_refused_splits;
          too_many_made = f.too_many_made;
          mark = subst (λ (all : ℕ). IsMarked all v.mark v.weight) (sym wide) f.mark;
        }),
        (later, (λ _. refl), λ high. absurd (omega arith)),
      )))

  pub counts_ok : (n id : ℕ) (m : Sat) (st : Step ℕ) → 0 < m.0.weight → m.0.refused_splits ≡ 0
      → m.0.terms.by_parts ≡ false → Allows (IsKept k) n id m made_at (λ x. (x + 1) % 2 ^ 64) (counts st m)
  counts_ok n id m st live none by = allows n id m made_at (λ x. (x + 1) % 2 ^ 64) (counts st m) (λ d made l views o at.
      let v : View = m.0 in
      let f : Fits k d made l (weights views) v = o.each id v at in
      let few = made_le k d made l views o in
      let way : k.by_parts ≡ false = ap (λ (t : Terms). t.by_parts) (sym (f.live live).0) ∙ by in
      let passes = o.passes way in
      let never : k.by_parts ≡ true → ⊥ = λ e. let no : true ≡ false = sym e ∙ way in cc in
      let word : laid d ((made + 1) % 2 ^ 64) l ≡ laid d (made + 1) l =
      ap (λ (x : ℕ). laid d x l) (mod-eq_of_lt (omega arith)) in
      dite (dec_le 65536 made)
      (λ many. let w : View = with_refused_split v in (
        w,
        (λ homes. kept d (made + 1) l (set views id w) homes (laid d ((made + 1) % 2 ^ 64) l) word
            (moved d made l views id v w d (made + 1) l o at live (omega arith) (
              (λ _. (omega arith, omega arith)),
              λ e. absurd (never e),
            ) (λ h. omega arith) (omega arith) (omega arith) (omega arith) (omega arith) o.fixed o.small 0 (omega arith)
            (omega arith) (λ wide. record {
              tickets = f.tickets;
              refusals = f.refusals;
              late = f.late;
              found = f.found;
              floor = f.floor;
              live = f.live;
              spent = f.spent;
              few_refusals = f.few_refusals;
              few_refused_splits = omega arith;
              too_many_made = λ h. omega arith;
              mark = let same : weights (set views id w) ≡ weights views = omega arith in
                  subst (λ (all : ℕ). IsMarked all v.mark v.weight) (sym same) f.mark;
            }))),
        ((λ few. absurd (omega arith)), λ _. refl),
      ))
      (λ not. let few-made : made < 65536 = lt_of_not-le not in let w : View = with_part v in (
        w,
        (λ homes. kept d (made + 1) l (set views id w) homes (laid d ((made + 1) % 2 ^ 64) l) word
            (moved d made l views id v w d (made + 1) l o at live (omega arith) (
              (λ _. (omega (arith, o.counted), omega arith)),
              λ e. absurd (never e),
            ) (λ h. omega arith) (omega arith) (omega arith) (omega arith) (omega arith) o.fixed o.small 0 (omega arith)
            (omega arith) (λ wide. record {
              tickets = f.tickets;
              refusals = f.refusals;
              late = f.late;
              found = f.found;
              floor = f.floor;
              live = λ _. f.live live;
              spent = λ e. absurd (omega arith);
              few_refusals = omega (arith, f.few_refusals);
              few_refused_splits = omega arith;
              too_many_made = λ h. absurd (omega arith);
              mark = let more : weights (set views id w) ≡ weights views + 1 = omega arith in
                  subst (λ (all : ℕ). IsMarked all v.mark (v.weight + 1)) (sym more)
                  (IsMarked-more v.mark (weights views) v.weight f.mark);
            }))),
        ((λ _. refl), λ many. absurd (omega arith)),
      )))

  -- a pass learns, and no number is drawn and no pass counted
  told : (d made l : ℕ) (views : List View) (id : ℕ) (v : View) (floor : ℕ) (mark : Mark) (readings raised l' to : ℕ)
      → IsOrderly k d made l views → get_elem? views id ≡ some v → 0 < v.weight → v.floor ≤ floor → floor ≤ l' → l ≤ l'
      → (k.rises ≡ false → l' ≡ k.limit) → l' ≤ 4294967296
      → raised ≡ max v.raised_to to → l' ≡ max l to
      → IsMarked (weights views) mark v.weight → IsOrderly k d made l'
      (set views id (record v { floor = floor; mark = mark; readings = readings; raised_to = raised }))
  told d made l views id v floor mark readings raised l' to o at live rises most up fixed small raises reached marked =
      let w : View = record v { floor = floor; mark = mark; readings = readings; raised_to = raised } in
      let f : Fits k d made l (weights views) v = o.each id v at in
      moved d made l views id v w d made l' o at live (omega arith) (stays d made l views v w o refl refl)
      (λ h. omega arith) (omega arith) (omega arith) (omega arith) up fixed small to raises reached (λ wide. record {
        tickets = tickets-on v.floor floor v.tickets rises f.tickets;
        refusals = refusals-on l l' v.refusals up f.refusals;
        late = f.late;
        found = f.found;
        floor = most;
        live = λ h. let t = f.live h in (t.0, omega (arith, t.1));
        spent = λ e. absurd (omega arith);
        few_refusals = f.few_refusals;
        few_refused_splits = f.few_refused_splits;
        too_many_made = f.too_many_made;
        mark = let same : weights (set views id w) ≡ weights views = omega arith in
            subst (λ (all : ℕ). IsMarked all mark v.weight) (sym same) marked;
      })

  -- a pass by parts has found so many draws made, and may be refused for that
  looked : (d made l : ℕ) (views : List View) (id : ℕ) (v : View) (rs : List Refusal) (found : ℕ)
      → IsOrderly k d made l views → get_elem? views id ≡ some v → 0 < v.weight → v.terms.by_parts ≡ true
      → Each (IsRefusal k l) rs → Each (λ (r : Refusal). r.number ≤ d) rs → found ≤ d
      → IsOrderly k d made l (set views id (record v { refusals = rs; found = found }))
  looked d made l views id v rs found o at live by refused late found_le =
      let w : View = record v { refusals = rs; found = found } in
      let f : Fits k d made l (weights views) v = o.each id v at in
      moved d made l views id v w d made l o at live (omega arith) (stays d made l views v w o refl refl)
      (λ h. omega (
        arith,
        ap (total (λ (r : Refusal). h r.number)) (used_up-parts w by),
        ap (total (λ (r : Refusal). h r.number)) (used_up-parts v by),
      ))
      (omega arith) (omega arith) (omega arith) (omega arith) o.fixed o.small 0 (omega arith) (omega arith)
      (λ wide. record {
        tickets = f.tickets;
        refusals = refused;
        late = late;
        found = found_le;
        floor = f.floor;
        live = f.live;
        spent = λ e. absurd (omega arith);
        few_refusals = omega (arith, ap length (used_up-parts w by));
        few_refused_splits = f.few_refused_splits;
        too_many_made = f.too_many_made;
        mark = let same : weights (set views id w) ≡ weights views = omega arith in
            subst (λ (all : ℕ). IsMarked all v.mark v.weight) (sym same) f.mark;
      })

  -- by parts a pass is told how many were drawn
  told_drawn : (d made l : ℕ) (views : List View) (id : ℕ) (m : Sat) → IsOrderly k d made l views
      → get_elem? views id ≡ some m.0 → 0 < m.0.weight → m.0.terms.by_parts ≡ true
      → (w : View) × IsOrderly k d made l (set views id w) × IsTold m d (w, m.1)
  told_drawn d made l views id m o at live by =
      let v : View = m.0 in
      let f : Fits k d made l (weights views) v = o.each id v at in
      dite (dec_le v.floor d)
      (λ high. (
        with_refusal v d,
        looked d made l views id v (refusal d v.floor ∷ v.refusals) d o at live by
            (((f.live live).1, high, f.floor), f.refusals) (omega arith, f.late) (omega arith),
        ((λ low. absurd (omega arith)), λ _. refl),
      ))
      (λ not. let low : d < v.floor = lt_of_not-le not in (
        with_found v d,
        looked d made l views id v v.refusals d o at live by f.refusals f.late (omega arith),
        ((λ _. refl), λ high. absurd (omega arith)),
      ))

  pub finds_ok : (n id : ℕ) (m : Sat) (st : Step ℕ) → 0 < m.0.weight → m.0.terms.by_parts ≡ true
      → Allows (IsKept k) n id m drawn_at (λ x. x) (finds st m)
  finds_ok n id m st live by = allows n id m drawn_at (λ x. x) (finds st m) (λ d made l views o at.
      let there = told_drawn d made l views id m o at live by in (
        there.0,
        (λ homes. kept d made l (set views id there.0) homes (laid d made l) refl there.1),
        ((o.each id m.0 at).found, there.2),
      ))

  -- by parts a pass has won the number that it found to be next
  won : (d made l : ℕ) (views : List View) (id : ℕ) (v : View) → IsOrderly k d made l views
      → get_elem? views id ≡ some v → 0 < v.weight → v.terms.by_parts ≡ true → d < v.floor
      → IsOrderly k (d + 1) made l (set views id (with_ticket v d))
  won d made l views id v o at live by low =
      let w : View = with_ticket v d in
      let f : Fits k d made l (weights views) v = o.each id v at in
      moved d made l views id v w (d + 1) made l o at live (omega arith) (stays d made l views v w o refl refl)
      (λ h. omega (arith, below_more h d)) (omega arith) (omega arith) (omega arith) (omega arith) o.fixed o.small 0
      (omega arith) (omega arith) (λ wide. record {
        tickets = (low, f.tickets);
        refusals = f.refusals;
        late = late-on d (d + 1) v.refusals (omega arith) f.late;
        found = omega arith;
        floor = f.floor;
        live = f.live;
        spent = λ e. absurd (omega arith);
        few_refusals = f.few_refusals;
        few_refused_splits = f.few_refused_splits;
        too_many_made = f.too_many_made;
        mark = let same : weights (set views id w) ≡ weights views = omega arith in
            subst (λ (all : ℕ). IsMarked all v.mark v.weight) (sym same) f.mark;
      })

  pub wins_ok : (n id : ℕ) (m : Sat) (st : Step ℕ) → 0 < m.0.weight → m.0.terms.by_parts ≡ true → st.first ≡ m.0.found
      → st.second ≡ m.0.found + 1 → m.0.found < m.0.floor
      → Allows (IsKept k) n id m drawn_at (λ x. either (x == st.first) st.second x) (wins st m)
  wins_ok n id m st live by first second low =
      allows n id m drawn_at (λ x. either (x == st.first) st.second x) (wins st m) (λ d made l views o at.
      let v : View = m.0 in
      let f : Fits k d made l (weights views) v = o.each id v at in
      let there = told_drawn d made l views id m o at live by in
      let F : ℕ → Type 0 = λ x. (w : View)
      × ((homes : List (Option ℕ)) → IsKept k (record { words = laid x made l; homes = homes; views = set views id w }))
      × wins st m d (w, m.1) in
      exchanged d st.first st.second F
      (λ hit.
      let next : st.second ≡ d + 1 = omega arith in (
        with_ticket v d,
        (λ homes. kept (d + 1) made l (set views id (with_ticket v d)) homes (laid st.second made l)
            (ap (λ (x : ℕ). laid x made l) next) (won d made l views id v o at live by (omega arith))),
        ((λ _. (is_later k d made l views o id v at, refl)), λ miss. absurd (miss hit)),
      ))
      (λ miss. (
        there.0,
        (λ homes. kept d made l (set views id there.0) homes (laid d made l) refl there.1),
        ((λ hit. absurd (miss hit)), λ _. (lt_of_not-le (λ le. miss (omega (arith, f.found))), there.2)),
      )))

  pub learns_ok : (n id : ℕ) (m : Sat) (st : Step ℕ) → 0 < m.0.weight
      → Allows (IsKept k) n id m drawn_at (λ x. x) (learns st m)
  learns_ok n id m st live = allows n id m drawn_at (λ x. x) (learns st m) (λ d made l views o at.
      let v : View = m.0 in
      let f : Fits k d made l (weights views) v = o.each id v at in (
        v,
        (λ homes.
            kept d made l (set views id v) homes (laid d made l) refl
            (told d made l views id v v.floor v.mark v.readings v.raised_to l 0 o at live (omega arith) f.floor
            (omega arith) o.fixed o.small (omega arith) (omega arith) f.mark)),
        (refl, is_sound k d made l views o id v at live),
      ))

  pub looks_ok : (n id : ℕ) (m : Sat) (st : Step ℕ) → 0 < m.0.weight
      → Allows (IsKept k) n id m made_at (λ x. x) (looks st m)
  looks_ok n id m st live = allows n id m made_at (λ x. x) (looks st m) (λ d made l views o at.
      let v : View = m.0 in
      let f : Fits k d made l (weights views) v = o.each id v at in
      let of : v.terms ≡ k = (f.live live).0 in
      let weight = term_le (λ (u : View). u.weight) views id v at in
      let splits = term_le (λ (u : View). u.refused_splits) views id v at in
      let rest = rest_le (λ (u : View). u.refused_splits) (λ (u : View). u.weight) views id v
      (λ i u there. (o.each i u there).few_refused_splits) at in
      let counted : made ≡ weights views + refused_splits views = o.counted in
      let marks : (mark : Mark) → IsMarked (weights views) mark v.weight → (homes : List (Option ℕ))
      → IsKept k (record { words = laid d made l; homes = homes; views = set views id (with_mark v mark) }) =
      λ mark marked homes.
      kept d made l (set views id (with_mark v mark)) homes (laid d made l) refl
      (told d made l views id v v.floor mark v.readings v.raised_to l 0 o at live (omega arith) f.floor
      (omega arith) o.fixed o.small (omega arith) (omega arith) marked) in
      dite (ℕ_discrete made (v.weight + v.refused_splits))
      (λ e.
      let all : weights views ≡ v.weight = omega arith in
      let whole : IsWhole v.terms v =
      subst (λ (t : Terms). IsWhole t v) (sym of) (is_whole k d made l views o id v at all) in
      (with_mark v Sole, marks Sole all, ((λ _. (refl, whole)), λ ne. absurd (ne e))))
      (λ ne.
      let less : v.weight < weights views = lt_of_not-le (λ le. ne (omega arith)) in
      let several : IsOneOfSeveral v.terms v =
      subst (λ (t : Terms). IsOneOfSeveral t v) (sym of) (is_one_of_several k d made l views o id v at less) in
      (with_mark v Shared, marks Shared less, ((λ e. absurd (ne e)), λ _. (refl, several)))))

  pub reads_limit_ok : (n id : ℕ) (m : Sat) (st : Step ℕ) → 0 < m.0.weight → m.0.terms ≡ k
      → Allows (IsKept k) n id m limit_at (λ x. x) (reads_limit st m)
  reads_limit_ok n id m st live of = allows n id m limit_at (λ x. x) (reads_limit st m) (λ d made l views o at.
      let v : View = m.0 in
      let f : Fits k d made l (weights views) v = o.each id v at in (
        with_floor v l,
        (λ homes.
            kept d made l (set views id (with_floor v l)) homes (laid d made l) refl
            (told d made l views id v l v.mark (v.readings + 1) v.raised_to l 0 o at live f.floor (omega arith)
            (omega arith) o.fixed o.small (omega arith) (omega arith) f.mark)),
        (
          record {
            rises = f.floor;
            fixed = λ e. o.fixed (ap (λ (x : Terms). x.rises) (sym of) ∙ e) ∙ ap (λ (x : Terms). x.limit) (sym of);
            small = o.small;
          },
          refl,
        ),
      ))

  pub raises_ok : (n id : ℕ) (m : Sat) (st : Step ℕ) → 0 < m.0.weight → m.0.terms ≡ k → k.rises ≡ true
      → st.first ≤ 4294967296 → Allows (IsKept k) n id m limit_at (λ x. max x st.first) (raises st m)
  raises_ok n id m st live of rises small =
      allows n id m limit_at (λ x. max x st.first) (raises st m) (λ d made l views o at.
      let v : View = m.0 in
      let f : Fits k d made l (weights views) v = o.each id v at in
      let l' : ℕ = max l st.first in
      let up : l ≤ l' = le-max_left l st.first in
      let least : l' ≤ 4294967296 = omega (arith, o.small) in
      let never : k.rises ≡ false → ⊥ = λ e. let no : true ≡ false = sym rises ∙ e in cc in (
        with_raise v st.first l',
        (λ homes. kept d made l' (set views id (with_raise v st.first l')) homes (laid d made l') refl
            (told d made l views id v l' v.mark (v.readings + 1) (max v.raised_to st.first) l' st.first o at live
            (omega (arith, f.floor)) (omega arith) up (λ e. absurd (never e)) least refl refl f.mark)),
        (
          record {
            rises = omega (arith, f.floor);
            fixed = λ e. absurd (never (ap (λ (x : Terms). x.rises) (sym of) ∙ e));
            small = least;
          },
          refl,
        ),
      ))

  pub splits_ok : (id : ℕ) (v : View) → 0 < given v → given v < v.weight → length (used_up v) + given v ≤ v.weight
      → v.refused_splits + given v ≤ v.weight → v.mark ≢ Sole → Splits (IsKept k) id v (without_part v) (part_of v)
  splits_ok id v some-given some-left few-refusals few-splits not-sole s kept at =
      let views : List View = s.views in
      let o : IsOrderly k kept.drawn kept.made kept.limit views = kept.orderly in
      let f : Fits k kept.drawn kept.made kept.limit (weights views) v = o.each id v at in
      let left : View = without_part v in
      let right : View = part_of v in
      let after : List View = set views id left ++ right ∷ [] in
      let weight = total-set (λ (u : View). u.weight) views id v left at in
      let same : weights after ≡ weights views =
      omega (arith, total-append (λ (u : View). u.weight) (set views id left) (right ∷ [])) in
      let refused = total-set (λ (u : View). u.refused_splits) views id v left at in
      let split = total-set (λ (u : View). u.splits) views id v left at in
      let live = f.live (omega arith) in
      let none : used_up right ≡ [] = used_up-none right refl in
      let F : View → Type 0 = Fits k kept.drawn kept.made kept.limit (weights after) in
      let fits-left : F left = record {
        tickets = f.tickets;
        refusals = f.refusals;
        late = f.late;
        found = f.found;
        floor = f.floor;
        live = λ _. live;
        spent = λ e. absurd (omega arith);
        few_refusals = omega arith;
        few_refused_splits = omega arith;
        too_many_made = f.too_many_made;
        mark = subst (λ (all : ℕ). IsMarked all v.mark (v.weight - given v)) (sym same)
            (IsMarked-less v.mark (weights views) v.weight (v.weight - given v) not-sole (omega arith) f.mark);
      } in
      let fits-right : F right = record {
        tickets = tt;
        refusals = tt;
        late = tt;
        found = omega arith;
        floor = f.floor;
        live = λ _. live;
        spent = λ _. (refl, refl, refl, refl);
        few_refusals = omega (arith, ap length none);
        few_refused_splits = omega arith;
        too_many_made = λ h. absurd (omega arith);
        mark = tt;
      } in
      record {
        drawn = kept.drawn;
        made = kept.made;
        limit = kept.limit;
        words = kept.words;
        orderly = record {
          numbers = λ h. omega (
            arith,
            total-append (number_weight h) (set views id left) (right ∷ []),
            total-set (number_weight h) views id v left at,
            ap (total (λ (r : Refusal). h r.number)) none,
            o.numbers h,
          );
          counted =
              omega (arith, o.counted, total-append (λ (u : View). u.refused_splits) (set views id left) (right ∷ []));
          passes = λ by. let p = o.passes by in
              (omega (arith, total-append (λ (u : View). u.splits) (set views id left) (right ∷ [])), omega arith);
          parts = λ by. let p = o.parts by in (omega arith, p.1);
          limit_is = omega (
            arith,
            o.limit_is,
            greatest-append k.limit (set views id left) right,
            greatest-raised k.limit views id v left 0 at (omega arith),
          );
          rises = o.rises;
          fixed = o.fixed;
          small = o.small;
          each = each-split F views id left right fits-left fits-right
              (λ i u at. subst (λ (all : ℕ). Fits k kept.drawn kept.made kept.limit all u) (sym same) (o.each i u at));
        };
      }

  Fits-blank_view : (d made limit all : ℕ) → Fits k d made limit all blank_view
  Fits-blank_view d made limit all = record {
    tickets = tt;
    refusals = tt;
    late = tt;
    found = omega arith;
    floor = omega arith;
    live = λ h. absurd (omega arith);
    spent = λ _. (refl, refl, refl, refl);
    few_refusals = omega arith;
    few_refused_splits = omega arith;
    too_many_made = λ h. absurd (omega arith);
    mark = tt;
  }

  pub joins_ok : (id : ℕ) (v : View) (other : ℕ) (w : View) → 0 < v.weight
      → Joins (IsKept k) id v other w (joined_view v w) blank_view
  joins_ok id v other w live s kept at apart there =
      let views : List View = s.views in
      let o : IsOrderly k kept.drawn kept.made kept.limit views = kept.orderly in
      let at-other : get_elem? views other ≡ some w = sym (set_else views id other (joined_view v w) apart) ∙ there in
      let f : Fits k kept.drawn kept.made kept.limit (weights views) v = o.each id v at in
      let g : Fits k kept.drawn kept.made kept.limit (weights views) w = o.each other w at-other in
      let both : used_up (joined_view v w) ≡ used_up v ++ used_up w =
      used_up-joined k kept.drawn kept.made kept.limit (weights views) v w live f g in
      let joined : View = joined_view v w in
      let middle : List View = set views id joined in
      let after : List View = set middle other blank_view in
      let sums : (p : View → ℕ) → total p after + p w + p v ≡ total p views + p joined + p blank_view =
      λ p. omega (arith, total-set p views id v joined at, total-set p middle other w blank_view there) in
      let same : weights after ≡ weights views = omega (arith, sums (λ (u : View). u.weight)) in
      let F : View → Type 0 = Fits k kept.drawn kept.made kept.limit (weights after) in
      let fits-joined : F joined = record {
        tickets = Each-append (λ t. t < max v.floor w.floor) v.tickets w.tickets
            (tickets-on v.floor (max v.floor w.floor) v.tickets (le-max_left v.floor w.floor) f.tickets)
            (tickets-on w.floor (max v.floor w.floor) w.tickets (omega arith) g.tickets);
        refusals = Each-append (IsRefusal k kept.limit) v.refusals w.refusals f.refusals g.refusals;
        late = Each-append (λ (r : Refusal). r.number ≤ kept.drawn) v.refusals w.refusals f.late g.late;
        found = omega (arith, f.found, g.found);
        floor = omega (arith, f.floor, g.floor);
        live = λ _. let t = f.live live in (t.0, omega (arith, t.1, le-max_left v.floor w.floor));
        spent = λ e. absurd (omega arith);
        few_refusals =
            omega (arith, ap length both, length-append (used_up v) (used_up w), f.few_refusals, g.few_refusals);
        few_refused_splits = omega (arith, f.few_refused_splits, g.few_refused_splits);
        too_many_made = λ h. dite (dec_le 1 v.refused_splits) (λ some-left. f.too_many_made some-left)
            (λ none. g.too_many_made (omega arith));
        mark = tt;
      } in
      record {
        drawn = kept.drawn;
        made = kept.made;
        limit = kept.limit;
        words = kept.words;
        orderly = record {
          numbers = λ h. omega (
            arith,
            sums (number_weight h),
            total-append h v.tickets w.tickets,
            ap (total (λ (r : Refusal). h r.number)) both,
            total-append (λ (r : Refusal). h r.number) (used_up v) (used_up w),
            o.numbers h,
          );
          counted = omega (arith, o.counted, sums (λ (u : View). u.refused_splits));
          passes = λ by. let p = o.passes by in (omega (arith, sums (λ (u : View). u.splits)), omega arith);
          parts = λ by. let p = o.parts by in (omega arith, p.1);
          limit_is = o.limit_is
              ∙ sym (greatest-joined k.limit views id other v w joined blank_view apart at at-other refl refl);
          rises = o.rises;
          fixed = o.fixed;
          small = o.small;
          each = each-joined F views id other joined blank_view fits-joined
              (Fits-blank_view kept.drawn kept.made kept.limit (weights after))
              (λ i u at. subst (λ (all : ℕ). Fits k kept.drawn kept.made kept.limit all u) (sym same) (o.each i u at));
        };
      }

  -- the first state: nothing is drawn, and what was made is the first pass, or all parts
  pub first_kept : (ws : List ℕ) (homes : List (Option ℕ)) → k.limit ≤ 4294967296 → ws ≡ laid 0 (first_weight k) k.limit
      → IsKept k (record { words = ws; homes = homes; views = first_view k ∷ [] })
  first_kept ws homes small words = kept 0 (first_weight k) k.limit (first_view k ∷ []) homes ws words (record {
    numbers = λ h. omega (arith, ap (total (λ (r : Refusal). h r.number)) none);
    counted = omega arith;
    passes = λ by. let one = ap (λ b. cond b all_parts 1) by in (omega arith, omega arith);
    parts = λ by. let all = ap (λ b. cond b all_parts 1) by in (omega arith, all);
    limit_is = omega arith;
    rises = omega arith;
    fixed = λ _. refl;
    small = small;
    each =
        each-only (Fits k 0 (first_weight k) k.limit (weights (first_view k ∷ []))) (first_view k) (record {
          tickets = tt;
          refusals = tt;
          late = tt;
          found = omega arith;
          floor = omega arith;
          live = λ _. (refl, omega arith);
          spent = λ _. (refl, refl, refl, refl);
          few_refusals = omega (arith, ap length none);
          few_refused_splits = omega arith;
          too_many_made = λ h. absurd (omega arith);
          mark = tt;
        });
  })
    where
      none : used_up (first_view k) ≡ []
      none = used_up-none (first_view k) refl
