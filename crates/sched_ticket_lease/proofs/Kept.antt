-- The requests of the present window are all told.
use Rattle.std.proofs.Common.{◌≡◌, ℕ, suc, ⊎_elim, ◌+◌, ◌-◌, ◌*◌, ◌<◌, ◌≤◌, ◌⊎◌, min, List, [], ◌∷◌, ◌++◌, drop, length}
use Rattle.std.proofs.Common.{cond, inl, inr}
use Rattle.std.proofs.Common.{refl, sym, ap, subst, arith, ◌∙◌, lt-ltb, le-ltb, lt_of_not-le, append_assoc}
use Rattle.std.specs.Prelude.{if◌then◌else◌, nat_lt}
use mathlib.Core.Logic.{dite}
use native.Mathlib.Decide.{dec_le}
use Rattle.std.proofs.lemmas.List.{same_from_push, append-nil, length_push}
use Rattle.std.proofs.lemmas.List.Sums.{sum_by-append}
use Rattle.sched_ticket.specs.Lists.{total, Each}
use Rattle.sched_ticket_lease.specs.Requests.{Asked, slice_since, since_then, recent, slice_end, Grows, Begins}
use Rattle.sched_ticket_lease.specs.Holders.{Holder}
use Rattle.sched_ticket_lease.specs.Histories.{Call, Does, Step, AreMade, counted_by, latest, left_by}
use Rattle.sched_ticket_lease.specs.Histories.{IsTimely, Goes, AreCounted, RequestsAreKept}
use Rattle.sched_ticket_lease.specs.Histories.Call.{drew, took, handed_back, lent, counted, told, left_alone}
use Rattle.sched_ticket_lease.specs.declared.slice.Slice.{Slice}
use Rattle.sched_ticket_lease.proofs.ToldOnce.{from-on, from-before, pushed, step-told}
use Rattle.sched_ticket_lease.proofs.Ends.{window_of, longest, slices-fit, mul-up, mul-more}
use Rattle.sched_ticket_lease.proofs.Ends.{in-window, ends-before, ends-in}

-- of each of a list's elements, and of one more
each-more : {A : Type 0} (P : A → Type 0) (xs : List A) (x : A) → Each P xs → P x → Each P (xs ++ x ∷ [])
each-more P [] x all one = (one, tt)
each-more P (y ∷ ys) x all one = (all.0, each-more P ys x all.1 one)

each-front : {A : Type 0} (P : A → Type 0) (xs : List A) (x : A) → Each P (xs ++ x ∷ []) → Each P xs × P x
each-front P [] x all = (tt, all.0)
each-front P (y ∷ ys) x all = let rest = each-front P ys x all.1 in ((all.0, rest.0), rest.1)

rest : (xs ys : List Slice) → length ys < 32 → 32 ≤ length (xs ++ ys) → recent (xs ++ ys) ≡ drop 1 (xs ++ ys) →
    (zs : List Slice) × (recent (xs ++ ys) ≡ zs ++ ys) × ((P : Slice → Type 0) → Each P xs → Each P zs)
rest [] ys few many e = absurd (let no : ⊥ = omega (arith, few, many) in no)
rest (x ∷ xs) ys few many e = (xs, e, λ P all. all.1)

-- what is kept of slices, of which the last ones are fewer than 32
recent-parts : (xs ys : List Slice) → length ys < 32 →
    (zs : List Slice) × (recent (xs ++ ys) ≡ zs ++ ys) × ((P : Slice → Type 0) → Each P xs → Each P zs)
recent-parts xs ys few = dite (dec_le 32 (length (xs ++ ys)))
    (λ many. rest xs ys few many (ap (λ b. cond b (xs ++ ys) (drop 1 (xs ++ ys))) (le-ltb (length (xs ++ ys)) 32 many)))
    (λ not. (
      xs,
      ap (λ b. cond b (xs ++ ys) (drop 1 (xs ++ ys))) (lt-ltb (length (xs ++ ys)) 32 (lt_of_not-le not)),
      λ P all. all,
    ))

each-recent : (P : Slice → Type 0) (xs : List Slice) → Each P xs → Each P (recent xs)
each-recent P xs all =
    let kept = recent-parts xs [] (omega arith) in
    let same = ap (λ ys. recent ys) (sym (append-nil xs)) ∙ kept.1 ∙ append-nil kept.0 in
    subst (λ (ys : List Slice). Each P ys) (sym same) (kept.2 P all)

module _ (since period : ℕ) where
  -- What was counted in a window that began then, so many requests, is in the slices that began in it, the last ones.
  -- They are so few that they all are kept.
  record IsLast (from : ℕ) (inside : List Slice) : Type 0 where
    pub front : List Slice
    pub last : Slice
    pub is : inside ≡ front ++ last ∷ []
    pub began : since + length front * longest period ≤ last.began
    pub late : last.began ≤ from
    pub ends : last.ends ≡ last.began + min (since + window_of period - last.began) (longest period)

  record Keeps (from sum : ℕ) (slices : List Slice) : Type 0 where
    pub before : List Slice
    pub inside : List Slice
    pub is : slices ≡ before ++ inside
    pub over : Each (λ (s : Slice). s.ends ≤ since) before
    pub some : (inside ≡ []) ⊎ IsLast from inside
    pub sum_is : min sum 18446744073709551615 ≤ since_then since inside

  -- nothing that began in the window, or a slice that is the last
  grows-in : (from sum now n : ℕ) (old new : List Slice) → from ≤ now → (keeps : Keeps from sum old) →
      (keeps.inside ≡ []) ⊎ IsLast from keeps.inside → Grows now n old new →
      Keeps now (sum + (if nat_lt now since then 0 else n)) new
  grows-in from sum now n old new le keeps (inl none) g =
      let same : g.front ++ g.last ∷ [] ≡ keeps.before =
      sym g.was ∙ keeps.is ∙ ap (λ xs. keeps.before ++ xs) none ∙ append-nil keeps.before in
      let over = each-front (λ (s : Slice). s.ends ≤ since) g.front g.last
      (subst (λ (xs : List Slice). Each (λ (s : Slice). s.ends ≤ since) xs) (sym same) keeps.over) in
      record {
        before = new;
        inside = [];
        is = sym (append-nil new);
        over = subst (λ (xs : List Slice). Each (λ (s : Slice). s.ends ≤ since) xs) (sym g.is)
            (each-more (λ (s : Slice). s.ends ≤ since) g.front g.grown over.0 (omega (arith, over.1, g.ends)));
        some = inl refl;
        sum_is = omega (
          arith,
          keeps.sum_is,
          ap (λ (xs : List Slice). since_then since xs) none,
          from-before now since n (omega (arith, g.in_time.1, over.1)),
        );
      }
  grows-in from sum now n old new le keeps (inr some) g =
      let front = some.front in
      let both : (keeps.before ++ front) ++ some.last ∷ [] ≡ g.front ++ g.last ∷ [] =
      append_assoc keeps.before front (some.last ∷ []) ∙ sym (ap (λ xs. keeps.before ++ xs) some.is) ∙ sym keeps.is
      ∙ g.was in
      let last = same_from_push (keeps.before ++ front) g.front some.last g.last both in
      let began : g.last.began ≡ some.last.began = ap (λ (s : Slice). s.began) (sym last.1) in
      record {
        before = keeps.before;
        inside = front ++ g.grown ∷ [];
        is = g.is ∙ ap (λ xs. xs ++ g.grown ∷ []) (sym last.0) ∙ append_assoc keeps.before front (g.grown ∷ []);
        over = keeps.over;
        some = inr (record {
          front = front;
          last = g.grown;
          is = refl;
          began = omega (arith, some.began, g.began, began);
          late = omega (arith, g.began, g.in_time.0);
          ends = omega (
            arith,
            some.ends,
            g.ends,
            g.began,
            began,
            ap (λ (s : Slice). s.ends) last.1,
          );
        });
        sum_is = omega (
          arith,
          keeps.sum_is,
          ap (λ (xs : List Slice). since_then since xs) some.is,
          pushed since front (front ++ some.last ∷ []) some.last refl,
          pushed since front (front ++ g.grown ∷ []) g.grown refl,
          from-on now since n (omega (arith, some.began, began, g.in_time.0)),
          from-on g.grown.began since g.grown.count (omega (arith, some.began, began, g.began)),
          from-on some.last.began since some.last.count (omega (arith, some.began)),
          g.count,
          ap (λ (s : Slice). s.count) last.1,
        );
      }

  grows : (from sum now n : ℕ) (old new : List Slice) → from ≤ now → Keeps from sum old → Grows now n old new →
      Keeps now (sum + (if nat_lt now since then 0 else n)) new
  grows from sum now n old new le keeps g = grows-in from sum now n old new le keeps keeps.some g

  -- a slice that begins before the window, or in it
  begins-before : (from sum now n : ℕ) (a : Asked) (new : List Slice) → from ≤ now → IsTimely since now a →
      now < since → (keeps : Keeps from sum a.slices) → (keeps.inside ≡ []) ⊎ IsLast from keeps.inside →
      Begins now n a new → Keeps now (sum + (if nat_lt now since then 0 else n)) new
  begins-before from sum now n a new le timely lt keeps (inl none) b =
      let all = keeps.is ∙ ap (λ xs. keeps.before ++ xs) none ∙ append-nil keeps.before in
      let over = subst (λ (xs : List Slice). Each (λ (s : Slice). s.ends ≤ since) xs) (sym all) keeps.over in
      record {
        before = new;
        inside = [];
        is = sym (append-nil new);
        over = subst (λ (xs : List Slice). Each (λ (s : Slice). s.ends ≤ since) xs) (sym b.is)
            (each-more (λ (s : Slice). s.ends ≤ since) (recent a.slices) b.slice
            (each-recent (λ (s : Slice). s.ends ≤ since) a.slices over)
            (omega (arith, b.ends, ends-before since now a timely lt)));
        some = inl refl;
        sum_is = omega (
          arith,
          keeps.sum_is,
          ap (λ (xs : List Slice). since_then since xs) none,
          from-before now since n lt,
        );
      }
  begins-before from sum now n a new le timely lt keeps (inr some) b =
      absurd (let no : ⊥ = omega (arith, some.began, some.late) in no)

  until-now : (now : ℕ) (a : Asked) → IsTimely since now a → a.period ≡ period → now < since + window_of period
  until-now now a timely same = subst (λ p. now < since + window_of p) same (in-window since now a timely)

  ends-now : (now : ℕ) (a : Asked) → IsTimely since now a → a.period ≡ period → since ≤ now →
      slice_end a now ≡ now + min (since + window_of period - now) (longest period)
  ends-now now a timely same on =
      subst (λ p. slice_end a now ≡ now + min (since + window_of p - now) (longest p)) same
      (ends-in since now a timely on)

  begins-in : (from sum now n : ℕ) (a : Asked) (new : List Slice) → from ≤ now → IsTimely since now a →
      a.period ≡ period → since ≤ now → (keeps : Keeps from sum a.slices) →
      (keeps.inside ≡ []) ⊎ IsLast from keeps.inside → Begins now n a new →
      Keeps now (sum + (if nat_lt now since then 0 else n)) new
  begins-in from sum now n a new le timely same on keeps (inl none) b =
      let all = keeps.is ∙ ap (λ xs. keeps.before ++ xs) none ∙ append-nil keeps.before in
      let over = subst (λ (xs : List Slice). Each (λ (s : Slice). s.ends ≤ since) xs) (sym all) keeps.over in
      let ends = ends-now now a timely same on in
      record {
        before = recent a.slices;
        inside = b.slice ∷ [];
        is = b.is;
        over = each-recent (λ (s : Slice). s.ends ≤ since) a.slices over;
        some = inr (record {
          front = [];
          last = b.slice;
          is = refl;
          began = omega (arith, b.began);
          late = omega (arith, b.began);
          ends = omega (arith, b.began, b.ends, ends);
        });
        sum_is = omega (
          arith,
          keeps.sum_is,
          ap (λ (xs : List Slice). since_then since xs) none,
          from-on now since n on,
          from-on b.slice.began since b.slice.count (omega (arith, b.began)),
          b.count,
        );
      }
  begins-in from sum now n a new le timely same on keeps (inr some) b =
      let front = some.front in
      let inside = keeps.inside in
      let long = longest period in
      let both : a.slices ≡ (keeps.before ++ front) ++ some.last ∷ [] =
      keeps.is ∙ ap (λ xs. keeps.before ++ xs) some.is ∙ sym (append_assoc keeps.before front (some.last ∷ [])) in
      let ended = b.over (keeps.before ++ front) some.last both in
      let many : length inside ≡ length front + 1 =
      ap (λ (xs : List Slice). length xs) some.is ∙ length_push front some.last in
      let until = until-now now a timely same in
      let product : length inside * long ≡ suc (length front) * long =
      ap (λ x. x * long) (many ∙ (let e : length front + 1 ≡ suc (length front) = omega arith in e)) in
      let began : since + length inside * long ≤ now = ⊎_elim
      (λ (early : now < some.last.began). absurd (let no : ⊥ = omega (arith, some.late) in no))
      (λ (past : some.last.ends ≤ now). omega (
        arith,
        some.began,
        some.ends,
        until,
        product,
        mul-more (length front) long,
      ))
      ended in
      let few : length inside < 32 = dite (dec_le 32 (length inside))
      (λ too-many. absurd (let no : ⊥ = omega (
        arith,
        mul-up 32 (length inside) long too-many,
        slices-fit period,
        until,
        began,
      ) in no))
      (λ not. lt_of_not-le not) in
      let ends = ends-now now a timely same on in
      let kept = recent-parts keeps.before inside few in
      record {
        before = kept.0;
        inside = inside ++ b.slice ∷ [];
        is = b.is ∙ ap (λ xs. recent xs ++ b.slice ∷ []) keeps.is ∙ ap (λ xs. xs ++ b.slice ∷ []) kept.1
            ∙ append_assoc kept.0 inside (b.slice ∷ []);
        over = kept.2 (λ (s : Slice). s.ends ≤ since) keeps.over;
        some = inr (record {
          front = inside;
          last = b.slice;
          is = refl;
          began = omega (arith, b.began);
          late = omega (arith, b.began);
          ends = omega (arith, b.began, b.ends, ends);
        });
        sum_is = omega (
          arith,
          keeps.sum_is,
          pushed since inside (inside ++ b.slice ∷ []) b.slice refl,
          from-on now since n on,
          from-on b.slice.began since b.slice.count (omega (arith, b.began)),
          b.count,
        );
      }

  begins : (from sum now n : ℕ) (a : Asked) (new : List Slice) → from ≤ now → IsTimely since now a → a.period ≡ period
      → Keeps from sum a.slices → Begins now n a new → Keeps now (sum + (if nat_lt now since then 0 else n)) new
  begins from sum now n a new le timely same keeps b = dite (dec_le since now)
      (λ on. begins-in from sum now n a new le timely same on keeps keeps.some b)
      (λ not. begins-before from sum now n a new le timely (lt_of_not-le not) keeps keeps.some b)

  counts : (from sum now n : ℕ) (a : Asked) (new : List Slice) → from ≤ now → IsTimely since now a → a.period ≡ period
      → Keeps from sum a.slices → Grows now n a.slices new ⊎ Begins now n a new →
      Keeps now (sum + (if nat_lt now since then 0 else n)) new
  counts from sum now n a new le timely same keeps (inl g) = grows from sum now n a.slices new le keeps g
  counts from sum now n a new le timely same keeps (inr b) = begins from sum now n a new le timely same keeps b

  same-sum : (from sum s : ℕ) (slices : List Slice) → s ≡ sum → Keeps from sum slices → Keeps from s slices
  same-sum from sum s slices e keeps = subst (λ n. Keeps from n slices) (sym e) keeps

  moved : {from sum : ℕ} {old new : List Slice} → new ≡ old → Keeps from sum old → Keeps from (sum + 0) new
  moved {from} {sum} {old} {new} e keeps =
      same-sum from sum (sum + 0) new (omega arith) (subst (λ xs. Keeps from sum xs) (sym e) keeps)

  keeps-step : (from sum : ℕ) (c : Call) (h k : Holder) → Does c h k → h.requests.period ≡ period →
      Goes since from h.requests c → Keeps from sum h.requests.slices →
      Keeps (latest from c) (sum + counted_by since c) k.requests.slices
  keeps-step from sum (drew now t) h k d same goes keeps = moved (ap (λ (r : Asked). r.slices) d.requests) keeps
  keeps-step from sum (took g) h k d same goes keeps = moved d.slices keeps
  keeps-step from sum (handed_back t) h k d same goes keeps = moved (ap (λ (r : Asked). r.slices) d.requests) keeps
  keeps-step from sum (lent most g) h k d same goes keeps =
      moved (ap (λ (x : Holder). x.requests.slices) d.same) keeps
  keeps-step from sum (counted now n) h k d same goes keeps =
      counts from sum now n h.requests k.requests.slices goes.0 goes.1 same keeps d.counts.2
  keeps-step from sum (told began n) h k d same goes keeps = absurd goes
  keeps-step from sum (left_alone m) h k d same goes keeps = moved (ap (λ (x : Holder). x.requests.slices) d) keeps

  period-step : (c : Call) (h k : Holder) → Does c h k → h.requests.period ≡ period → k.requests.period ≡ period
  period-step (drew now t) h k d same = ap (λ (r : Asked). r.period) d.requests ∙ same
  period-step (took g) h k d same = d.period ∙ same
  period-step (handed_back t) h k d same = ap (λ (r : Asked). r.period) d.requests ∙ same
  period-step (lent most g) h k d same = ap (λ (x : Holder). x.requests.period) d.same ∙ same
  period-step (counted now n) h k d same = d.counts.0 ∙ same
  period-step (told began n) h k d same = d.tells.period ∙ same
  period-step (left_alone m) h k d same = ap (λ (x : Holder). x.requests.period) d ∙ same

  all-kept : (from sum : ℕ) (h : Holder) (steps : List Step) → AreMade h steps → h.requests.period ≡ period →
      AreCounted since from h steps → Keeps from sum h.requests.slices →
      (last : ℕ) × Keeps last (sum + total (λ (s : Step). counted_by since s.call) steps)
      (left_by h steps).requests.slices
  all-kept from sum h [] made same counts keeps =
      (from, same-sum from sum (sum + 0) h.requests.slices (omega arith) keeps)
  all-kept from sum h (s ∷ ss) made same counts keeps =
      let this = counted_by since s.call in
      let later = total (λ (s : Step). counted_by since s.call) ss in
      let rest = all-kept (latest from s.call) (sum + this) s.after ss made.2
      (period-step s.call h s.after made.0 same) counts.1
      (keeps-step from sum s.call h s.after made.0 same counts.0 keeps) in (
        rest.0,
        same-sum rest.0 (sum + this + later) (sum + (this + later)) (left_by s.after ss).requests.slices (omega arith)
            rest.1,
      )

  -- it keeps no more than were counted
  no-more : (h : Holder) (steps : List Step) → AreMade h steps →
      since_then since (left_by h steps).requests.slices
      ≤ total (λ (s : Step). counted_by since s.call) steps + since_then since h.requests.slices
  no-more h [] made = omega arith
  no-more h (s ∷ ss) made = omega (arith, step-told since s.call h s.after made.0, no-more s.after ss made.2)

pub requests_are_kept : RequestsAreKept
requests_are_kept h steps none made since counts n k tells =
    let nothing : Keeps since h.requests.period 0 0 h.requests.slices = record {
      before = [];
      inside = [];
      is = none;
      over = tt;
      some = inl refl;
      sum_is = omega arith;
    } in
    let kept = all-kept since h.requests.period 0 0 h steps made refl counts nothing in
    omega (
      arith,
      tells.tells.told,
      kept.1.sum_is,
      ap (λ (xs : List Slice). since_then since xs) kept.1.is,
      sum_by-append (λ (s : Slice). slice_since since s) kept.1.before kept.1.inside,
      no-more since h.requests.period h steps made,
      ap (λ (xs : List Slice). since_then since xs) none,
    )
