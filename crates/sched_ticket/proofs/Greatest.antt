-- The greatest that passes raised a limit to, over views that change.
use Rattle.std.proofs.Common.{◌≡◌, ◌≢◌, ℕ, zero, suc, max, List, [], ◌∷◌, ◌++◌, set, sym, refl, ap, arith}
use mathlib.Core.Option.{some, some-injective, some-ne-none}
use lib.ListN.{get_elem?}
use Rattle.sched_ticket.specs.Rule.{weights, greatest}
use Rattle.sched_ticket.specs.declared.view.View.{View}
use Rattle.sched_ticket.proofs.Sums.{term_le}

-- what a view's passes raised the limit to
abbrev raised : View → ℕ
raised v = v.raised_to

module _ (n : ℕ) where
  pub greatest-append : (l : List View) (u : View) → greatest n (l ++ u ∷ []) ≡ max (greatest n l) u.raised_to
  greatest-append [] u = omega arith
  greatest-append (x ∷ xs) u = omega (arith, greatest-append xs u)

  -- one view raised the limit
  pub greatest-raised : (l : List View) (j : ℕ) (v w : View) (to : ℕ) → get_elem? l j ≡ some v
      → w.raised_to ≡ max v.raised_to to →
      greatest n (set l j w) ≡ max (greatest n l) to
  greatest-raised [] j v w to e up = absurd (some-ne-none v (sym e))
  greatest-raised (x ∷ xs) zero v w to e up = omega (arith, ap raised (some-injective x v e))
  greatest-raised (x ∷ xs) (suc j) v w to e up = omega (arith, greatest-raised xs j v w to e up)

  -- one view is left blank
  greatest-blank_view : (l : List View) (j : ℕ) (v b : View) → get_elem? l j ≡ some v → b.raised_to ≡ 0 →
      max (greatest n (set l j b)) v.raised_to ≡ greatest n l
  greatest-blank_view [] j v b e none = absurd (some-ne-none v (sym e))
  greatest-blank_view (x ∷ xs) zero v b e none = omega (arith, ap raised (some-injective x v e))
  greatest-blank_view (x ∷ xs) (suc j) v b e none = omega (arith, greatest-blank_view xs j v b e none)

  -- one view takes in another, which is left blank
  pub greatest-joined : (l : List View) (i j : ℕ) (v w u b : View) → j ≢ i → get_elem? l i ≡ some v
      → get_elem? l j ≡ some w →
      u.raised_to ≡ max v.raised_to w.raised_to → b.raised_to ≡ 0 → greatest n (set (set l i u) j b) ≡ greatest n l
  greatest-joined [] i j v w u b apart e d up none = absurd (some-ne-none v (sym e))
  greatest-joined (x ∷ xs) zero zero v w u b apart e d up none = absurd (apart refl)
  greatest-joined (x ∷ xs) zero (suc j) v w u b apart e d up none =
      omega (arith, ap raised (some-injective x v e), greatest-blank_view xs j w b d none)
  greatest-joined (x ∷ xs) (suc i) zero v w u b apart e d up none =
      omega (arith, ap raised (some-injective x w d), greatest-raised xs i v u w.raised_to e up)
  greatest-joined (x ∷ xs) (suc i) (suc j) v w u b apart e d up none =
      omega (arith, greatest-joined xs i j v w u b (λ h. apart (ap suc h)) e d up none)

  nothing : (l : List View) → ((i : ℕ) (u : View) → get_elem? l i ≡ some u → u.weight ≡ 0 → u.raised_to ≡ 0)
      → weights l ≡ 0 →
      greatest n l ≡ n
  nothing [] h e = refl
  nothing (x ∷ xs) h e = omega (arith, h 0 x refl (omega arith), nothing xs (λ i. h (suc i)) (omega arith))

  -- where one view stands for all passes, and the others raised nothing
  pub greatest-alone : (l : List View) (j : ℕ) (v : View)
      → ((i : ℕ) (u : View) → get_elem? l i ≡ some u → u.weight ≡ 0 → u.raised_to ≡ 0) →
      get_elem? l j ≡ some v → weights l ≡ v.weight → greatest n l ≡ max n v.raised_to
  greatest-alone [] j v h e all = absurd (some-ne-none v (sym e))
  greatest-alone (x ∷ xs) zero v h e all =
      omega (
        arith,
        ap raised (some-injective x v e),
        nothing xs (λ i. h (suc i)) (omega (arith, ap (λ (u : View). u.weight) (some-injective x v e))),
      )
  greatest-alone (x ∷ xs) (suc j) v h e all =
      let here : x.weight ≡ 0 = omega (arith, term_le (λ (u : View). u.weight) xs j v e) in
      omega (arith, h 0 x refl here, greatest-alone xs j v (λ i. h (suc i)) e (omega arith))
