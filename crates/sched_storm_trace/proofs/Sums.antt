-- What is counted of the events of a trace: what each request's events balance, all events balance.
use Rattle.std.proofs.Common.{◌≡◌, ℕ, zero, suc, ◌+◌, ◌<◌, ◌≤◌, Bool, true, false, cond, eqb, eqb-true, eq-eqb, ltb}
use Rattle.std.proofs.Common.{ltb-true, ltb-false, lt-ltb, List, [], ◌∷◌, Option, Some, None, refl, sym, ◌∙◌, ap, subst}
use Rattle.std.proofs.Common.{inl, inr, arith}
use Rattle.std.proofs.lemmas.Bool.{false≢true, cases_lt}
use Rattle.std.proofs.lemmas.List.Sums.{sum_by-cons}
use Rattle.std.specs.List.{filter, sum_by}
use Rattle.sched_storm_trace.specs.Trace.{Due, Event, Answer, is_of, Follow, AreAnswered, told_by, IsBeginning}

row_of : (x r n : ℕ) (b c : Bool) → eqb r n ≡ b → ltb r n ≡ c → (d : Bool) → ltb r (suc n) ≡ d →
    cond c x 0 + cond b x 0 ≡ cond d x 0
row_of x r n true true s t d u = let same = eqb-true r n s in let less = ltb-true r n t in absurd (omega arith)
row_of x r n true false s t true u = omega arith
row_of x r n true false s t false u = let same = eqb-true r n s in let more = ltb-false r (suc n) u in absurd
    (omega arith)
row_of x r n false true s t true u = omega arith
row_of x r n false true s t false u = let less = ltb-true r n t in let more = ltb-false r (suc n) u in absurd
    (omega arith)
row_of x r n false false s t true u =
    let more = ltb-false r n t in
    let less = ltb-true r (suc n) u in
    let same : r ≡ n = omega arith in
    absurd (false≢true (sym s ∙ eq-eqb r n same))
row_of x r n false false s t false u = omega arith

none_below : (r : ℕ) (x : ℕ) (b : Bool) → ltb r 0 ≡ b → cond b x 0 ≡ 0
none_below r x true s = let less = ltb-true r 0 s in absurd (omega arith)
none_below r x false s = refl

some_none : {X : Type 0} (b : Bool) (x : X) (xs : List X) → b ≡ true → cond b (x ∷ xs) xs ≡ [] → ⊥
some_none true x xs s h = cc
some_none false x xs s h = false≢true s

rest_none : {X : Type 0} (b : Bool) (x : X) (xs : List X) → cond b (x ∷ xs) xs ≡ [] → xs ≡ []
rest_none true x xs h = absurd (some_none true x xs refl h)
rest_none false x xs h = h

module _ {T : Type 0} where
  -- ---- by requests

  -- the sum over the events of the first requests
  rows : (Event T → ℕ) → List (Event T) → ℕ → ℕ
  rows f es zero = 0
  rows f es (suc n) = rows f es n + sum_by f (filter (is_of n) es)

  row_more : (f : Event T → ℕ) (e : Event T) (es : List (Event T)) (n : ℕ) (b : Bool) → eqb e.request n ≡ b →
      sum_by f (cond b (e ∷ filter (is_of n) es) (filter (is_of n) es)) ≡ sum_by f (filter (is_of n) es) + cond b
      (f e) 0
  row_more f e es n true s = let one = sum_by-cons f e (filter (is_of n) es) in omega arith
  row_more f e es n false s = omega arith

  rows_more : (f : Event T → ℕ) (e : Event T) (es : List (Event T)) (n : ℕ) →
      rows f (e ∷ es) n ≡ rows f es n + cond (ltb e.request n) (f e) 0
  unfolding rows
  rows_more f e es zero = let none = none_below e.request (f e) (ltb e.request 0) refl in omega arith
  rows_more f e es (suc n) =
      let before = rows_more f e es n in
      let row = row_more f e es n (eqb e.request n) refl in
      let both = row_of (f e) e.request n (eqb e.request n) (ltb e.request n) refl refl (ltb e.request (suc n)) refl in
      omega arith

  rows_of_none : (f : Event T → ℕ) (n : ℕ) → rows f [] n ≡ 0
  unfolding rows
  rows_of_none f zero = refl
  rows_of_none f (suc n) = let before = rows_of_none f n in omega arith

  -- all events are of the first requests
  all_rows : (f : Event T → ℕ) (n : ℕ) (es : List (Event T)) → ((r : ℕ) → n ≤ r → filter (is_of r) es ≡ []) →
      sum_by f es ≡ rows f es n
  all_rows f n [] h = sym (rows_of_none f n)
  all_rows f n (e ∷ es) h =
      let rest = all_rows f n es (λ r k. rest_none (is_of r e) e (filter (is_of r) es) (h r k)) in
      let one = sum_by-cons f e es in
      let more = rows_more f e es n in
      let below : e.request < n = elim (cases_lt e.request n) [
        | inl k ↦ k
        | inr k ↦ absurd (some_none (is_of e.request e) e (filter (is_of e.request) es)
            (eq-eqb e.request e.request refl) (h e.request k))
      ] in
      let here : cond (ltb e.request n) (f e) 0 ≡ f e = ap (λ b. cond b (f e) 0) (lt-ltb e.request n below) in
      omega arith

  rows_rise : (f g : Event T → ℕ) (es : List (Event T)) →
      ((r : ℕ) → sum_by f (filter (is_of r) es) ≤ sum_by g (filter (is_of r) es)) →
      (n : ℕ) → rows f es n ≤ rows g es n
  unfolding rows
  rows_rise f g es h zero = omega arith
  rows_rise f g es h (suc n) = let before = rows_rise f g es h n in let row = h n in omega arith

  rows_few : (f : Event T → ℕ) (es : List (Event T)) → ((r : ℕ) → sum_by f (filter (is_of r) es) ≤ 1) → (n : ℕ) →
      rows f es n ≤ n
  unfolding rows
  rows_few f es h zero = omega arith
  rows_few f es h (suc n) = let before = rows_few f es h n in let row = h n in omega arith

  pub sum_none : (es : List (Event T)) → sum_by (λ (e : Event T). 0) es ≡ 0
  sum_none [] = refl
  sum_none (e ∷ es) = let one = sum_by-cons (λ (e : Event T). 0) e es in let rest = sum_none es in omega arith

  -- ---- balances

  abbrev Balanced : (Option (Due T) → ℕ) → (Event T → ℕ) → (Event T → ℕ) → List (Event T) → Type 0
  Balanced weight minus plus [] = Unit {0}
  Balanced weight minus plus (e ∷ es) = (weight e.next + minus e ≤ weight (Some e.due) + plus e) × Balanced weight
      minus plus es

  balanced_some : (weight : Option (Due T) → ℕ) (minus plus : Event T → ℕ) (r : ℕ) (es : List (Event T)) →
      Balanced weight minus plus es →
      Balanced weight minus plus (filter (is_of r) es)
  balanced_some weight minus plus r [] h = tt
  balanced_some weight minus plus r (e ∷ es) h =
      let rest = balanced_some weight minus plus r es h.1 in
      elim (is_of r e) as (λ b. Balanced weight minus plus (cond b (e ∷ filter (is_of r) es) (filter (is_of r) es)))
      [ true ↦ (h.0, rest) | false ↦ rest ]

  follow_balance : (weight : Option (Due T) → ℕ) (minus plus : Event T → ℕ) (due last : Option (Due T))
      (es : List (Event T)) →
      Balanced weight minus plus es → Follow due es last → sum_by minus es ≤ weight due + sum_by plus es
  follow_balance weight minus plus due last [] b h = omega arith
  follow_balance weight minus plus due last (e ∷ es) b h =
      let rest = follow_balance weight minus plus e.next last es b.1 h.1 in
      let one = sum_by-cons minus e es in
      let more = sum_by-cons plus e es in
      let here = b.0 in
      let same = ap weight h.0 in
      omega arith

  follow_none : (first last : Option (Due T)) (es : List (Event T)) → first ≡ None → Follow first es last → es ≡ []
  follow_none first last [] none h = refl
  follow_none first last (e ∷ es) none h = absurd (not_some (sym none ∙ h.0))
    where
      not_some : {X : Type 0} {x : X} → None ≡ Some x → ⊥
      not_some h = cc

  module _ {S M : Type 0} (answer : S → ℕ → Due T → Answer T S M) where
    answered_balance : (weight : Option (Due T) → ℕ) (minus plus : Event T → ℕ) →
        ((s : S) (r : ℕ) (d : Due T) → weight (answer s r d).next + minus
        (record { request = r; due = d; next = (answer s r d).next }) ≤
        weight (Some d) + plus (record { request = r; due = d; next = (answer s r d).next })) →
        (s : S) (es : List (Event T)) (last : S) → AreAnswered answer s es last → Balanced weight minus plus es
    answered_balance weight minus plus step s [] last h = tt
    answered_balance weight minus plus step s (e ∷ es) last h = (
      subst (λ n. weight n + minus (record { request = e.request; due = e.due; next = n }) ≤
          weight (Some e.due) + plus (record { request = e.request; due = e.due; next = n })) (sym h.0)
          (step s e.request e.due),
      answered_balance weight minus plus step (answer s e.request e.due).shared es last h.1,
    )

    -- What each event takes from the weight of its request or from what it adds, all events take from what all add.
    pub balance : (weight : Option (Due T) → ℕ) (minus plus : Event T → ℕ) →
        ((s : S) (r : ℕ) (d : Due T) → weight (answer s r d).next + minus
        (record { request = r; due = d; next = (answer s r d).next }) ≤
        weight (Some d) + plus (record { request = r; due = d; next = (answer s r d).next })) →
        (first : ℕ → Option (Due T)) (n : ℕ) → ((r : ℕ) → weight (first r) ≡ 0) → ((r : ℕ) → n ≤ r → first r ≡ None) →
        (start : S) (es : List (Event T)) (due : ℕ → Option (Due T)) (last : S) →
        IsBeginning answer first start es due last →
        sum_by minus es ≤ sum_by plus es
    balance weight minus plus step first n light few start es due last h =
        let balanced = answered_balance weight minus plus step start es last h.answers in
        let none : (r : ℕ) → n ≤ r → filter (is_of r) es ≡ [] = λ r k. follow_none (first r) (due r)
        (filter (is_of r) es) (few r k) (h.each_request r) in
        let takes = all_rows minus n es none in
        let adds = all_rows plus n es none in
        let each = rows_rise minus plus es (λ (r : ℕ). row_balance r balanced) n in
        omega arith
      where
        row_balance : (r : ℕ) → Balanced weight minus plus es →
            sum_by minus (filter (is_of r) es) ≤ sum_by plus (filter (is_of r) es)
        row_balance r balanced =
            let row = follow_balance weight minus plus (first r) (due r) (filter (is_of r) es)
            (balanced_some weight minus plus r es balanced) (h.each_request r) in
            let zero = light r in
            omega arith

    -- what is counted of events, counted of what is told of them
    pub told_sum : (f : Event T → ℕ) (g : M → ℕ) →
        ((s : S) (r : ℕ) (d : Due T) → f (record { request = r; due = d; next = (answer s r d).next }) ≡ g
        (answer s r d).told) →
        (s : S) (es : List (Event T)) (last : S) → AreAnswered answer s es last →
        sum_by f es ≡ sum_by g (told_by answer s es)
    told_sum f g same s [] last h = refl
    told_sum f g same s (e ∷ es) last h =
        let rest = told_sum f g same (answer s e.request e.due).shared es last h.1 in
        let here : f e ≡ g (answer s e.request e.due).told =
        ap (λ n. f (record { request = e.request; due = e.due; next = n })) h.0 ∙ same s e.request e.due in
        let one = sum_by-cons f e es in
        let more = sum_by-cons g (answer s e.request e.due).told (told_by answer (answer s e.request e.due).shared es)
        in
        omega arith

    pub told_sum_ge : (f : Event T → ℕ) (g : M → ℕ) →
        ((s : S) (r : ℕ) (d : Due T) → f (record { request = r; due = d; next = (answer s r d).next }) ≤ g
        (answer s r d).told) →
        (s : S) (es : List (Event T)) (last : S) → AreAnswered answer s es last →
        sum_by f es ≤ sum_by g (told_by answer s es)
    told_sum_ge f g under s [] last h = omega arith
    told_sum_ge f g under s (e ∷ es) last h =
        let rest = told_sum_ge f g under (answer s e.request e.due).shared es last h.1 in
        let here : f e ≤ g (answer s e.request e.due).told =
        subst (λ n. f (record { request = e.request; due = e.due; next = n }) ≤ g (answer s e.request e.due).told)
        (sym h.0)
        (under s e.request e.due) in
        let one = sum_by-cons f e es in
        let more = sum_by-cons g (answer s e.request e.due).told (told_by answer (answer s e.request e.due).shared es)
        in
        omega arith

    pub told_sum_le : (f : Event T → ℕ) (g : M → ℕ) →
        ((s : S) (r : ℕ) (d : Due T) → g (answer s r d).told ≤ f
        (record { request = r; due = d; next = (answer s r d).next })) →
        (s : S) (es : List (Event T)) (last : S) → AreAnswered answer s es last →
        sum_by g (told_by answer s es) ≤ sum_by f es
    told_sum_le f g over s [] last h = omega arith
    told_sum_le f g over s (e ∷ es) last h =
        let rest = told_sum_le f g over (answer s e.request e.due).shared es last h.1 in
        let here : g (answer s e.request e.due).told ≤ f e =
        subst (λ n. g (answer s e.request e.due).told ≤ f (record { request = e.request; due = e.due; next = n }))
        (sym h.0)
        (over s e.request e.due) in
        let one = sum_by-cons f e es in
        let more = sum_by-cons g (answer s e.request e.due).told (told_by answer (answer s e.request e.due).shared es)
        in
        omega arith

    -- Where each request has one to take at most, all take no more than there are requests.
    pub at_most : (weight : Option (Due T) → ℕ) (minus : Event T → ℕ) →
        ((s : S) (r : ℕ) (d : Due T) →
        weight (answer s r d).next + minus (record { request = r; due = d; next = (answer s r d).next }) ≤
        weight (Some d)) →
        (first : ℕ → Option (Due T)) (n : ℕ) → ((r : ℕ) → weight (first r) ≤ 1) → ((r : ℕ) → n ≤ r → first r ≡ None) →
        (start : S) (es : List (Event T)) (due : ℕ → Option (Due T)) (last : S) →
        IsBeginning answer first start es due last → sum_by minus es ≤ n
    at_most weight minus step first n light few start es due last h =
        let plus : Event T → ℕ = λ e. 0 in
        let balanced = answered_balance weight minus plus (λ s r d. let k = step s r d in omega arith) start es last
        h.answers in
        let none : (r : ℕ) → n ≤ r → filter (is_of r) es ≡ [] = λ r k.
        follow_none (first r) (due r) (filter (is_of r) es) (few r k) (h.each_request r) in
        let takes = all_rows minus n es none in
        let each = rows_few minus es (λ (r : ℕ). row_takes r balanced) n in
        omega arith
      where
        row_takes : (r : ℕ) → Balanced weight minus (λ (e : Event T). 0) es → sum_by minus (filter (is_of r) es) ≤ 1
        row_takes r balanced =
            let nothing : Event T → ℕ = λ e. 0 in
            let some = balanced_some weight minus nothing r es balanced in
            let row = follow_balance weight minus nothing (first r) (due r) (filter (is_of r) es) some
            (h.each_request r) in
            let none = sum_none (filter (is_of r) es) in
            let one = light r in
            omega arith
