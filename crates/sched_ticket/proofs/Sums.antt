-- Sums over lists, and lists that change at one place.
use Rattle.std.proofs.Common.{◌≡◌, ℕ, zero, suc, ◌+◌, ◌<◌, ◌≤◌, ◌≢◌, List, [], ◌∷◌, ◌++◌, length, set, min, cond, ltb}
use Rattle.std.proofs.Common.{sym, refl, ap, subst, arith, ⊎_elim, lt-ltb, le-ltb, eq-eqb, ne_eqb, lt_of_not-le}
use mathlib.Core.Logic.{dite}
use mathlib.Core.Option.{some, some-injective, some-ne-none}
use native.Mathlib.Decide.{ℕ_discrete, dec_le}
use lib.ListN.{get_elem?}
use Rattle.atomic_table.proofs.Lists.{at_set, at_snoc}
use Rattle.sched_ticket.specs.Lists.{total, below, Each, is, times, once_below}

module _ {A : Type 0} where
  module _ (g : A → ℕ) where
    pub total-append : (l m : List A) → total g (l ++ m) ≡ total g l + total g m
    total-append [] m = omega arith
    total-append (x ∷ xs) m = omega (arith, total-append xs m)

    pub total-set : (l : List A) (j : ℕ) (v w : A) → get_elem? l j ≡ some v
        → total g (set l j w) + g v ≡ total g l + g w
    total-set [] j v w e = absurd (some-ne-none v (sym e))
    total-set (x ∷ xs) zero v w e = omega (arith, ap g (some-injective x v e))
    total-set (x ∷ xs) (suc j) v w e = omega (arith, total-set xs j v w e)

    pub term_le : (l : List A) (j : ℕ) (v : A) → get_elem? l j ≡ some v → g v ≤ total g l
    term_le [] j v e = absurd (some-ne-none v (sym e))
    term_le (x ∷ xs) zero v e = omega (arith, ap g (some-injective x v e))
    term_le (x ∷ xs) (suc j) v e = omega (arith, term_le xs j v e)

    pub terms_le : (l : List A) (j i : ℕ) (v u : A) → i ≢ j → get_elem? l j ≡ some v → get_elem? l i ≡ some u
        → g v + g u ≤ total g l
    terms_le [] j i v u n e d = absurd (some-ne-none v (sym e))
    terms_le (x ∷ xs) zero zero v u n e d = absurd (n refl)
    terms_le (x ∷ xs) zero (suc i) v u n e d = omega (arith, ap g (some-injective x v e), term_le xs i u d)
    terms_le (x ∷ xs) (suc j) zero v u n e d = omega (arith, ap g (some-injective x u d), term_le xs j v e)
    terms_le (x ∷ xs) (suc j) (suc i) v u n e d = omega (arith, terms_le xs j i v u (λ h. n (ap suc h)) e d)

  pub total-one : (l : List A) → total (λ _. 1) l ≡ length l
  total-one [] = refl
  total-one (x ∷ xs) = omega (arith, total-one xs)

  pub total-plus : (f g : A → ℕ) (l : List A) → total (λ x. f x + g x) l ≡ total f l + total g l
  total-plus f g [] = refl
  total-plus f g (x ∷ xs) = omega (arith, total-plus f g xs)

  -- where f is at most g at each element
  module _ (f g : A → ℕ) where
    pub total-le : (l : List A) → ((i : ℕ) (u : A) → get_elem? l i ≡ some u → f u ≤ g u) → total f l ≤ total g l
    total-le [] h = omega arith
    total-le (x ∷ xs) h = omega (arith, h 0 x refl, total-le xs (λ i. h (suc i)))

    pub rest_le : (l : List A) (j : ℕ) (v : A) → ((i : ℕ) (u : A) → get_elem? l i ≡ some u → f u ≤ g u)
        → get_elem? l j ≡ some v → total f l + g v ≤ total g l + f v
    rest_le [] j v h e = absurd (some-ne-none v (sym e))
    rest_le (x ∷ xs) zero v h e =
        omega (arith, ap f (some-injective x v e), ap g (some-injective x v e), total-le xs (λ i. h (suc i)))
    rest_le (x ∷ xs) (suc j) v h e = omega (arith, h 0 x refl, rest_le xs j v (λ i. h (suc i)) e)

  pub Each-append : (P : A → Type 0) (xs ys : List A) → Each P xs → Each P ys → Each P (xs ++ ys)
  Each-append P [] ys p q = q
  Each-append P (x ∷ xs) ys p q = (p.0, Each-append P xs ys p.1 q)

  pub Each-map : (P Q : A → Type 0) → ((x : A) → P x → Q x) → (xs : List A) → Each P xs → Each Q xs
  Each-map P Q f [] p = tt
  Each-map P Q f (x ∷ xs) p = (f x p.0, Each-map P Q f xs p.1)

pub below_more : (h : ℕ → ℕ) (n : ℕ) → below h (n + 1) ≡ below h n + h n
below_more h n = let e : n + 1 ≡ suc n = omega arith in ap (below h) e

pub below-one : (n : ℕ) → below (λ _. 1) n ≡ n
below-one zero = refl
below-one (suc n) = omega (arith, below-one n)

pub once_below-yes : (x n : ℕ) → x < n → once_below x n ≡ 1
once_below-yes x n h = ap (λ b. cond b 1 0) (lt-ltb x n h)

pub once_below-no : (x n : ℕ) → n ≤ x → once_below x n ≡ 0
once_below-no x n h = ap (λ b. cond b 1 0) (le-ltb x n h)

-- of the numbers below d, those below n
pub below-once_below : (n d : ℕ) → below (λ x. once_below x n) d ≡ min d n
below-once_below n zero = omega arith
below-once_below n (suc d) = dite (dec_le n d) (λ le. omega (arith, below-once_below n d, once_below-no d n le))
    (λ lt. omega (arith, below-once_below n d, once_below-yes d n (lt_of_not-le lt)))

pub is-same : (x n : ℕ) → n ≡ x → is x n ≡ 1
is-same x n e = ap (λ b. cond b 1 0) (eq-eqb n x e)

pub is-other : (x n : ℕ) → n ≢ x → is x n ≡ 0
is-other x n ne = ap (λ b. cond b 1 0) (ne_eqb n x ne)

-- x stands once below n where it is below n, and else not
pub below-is : (x n : ℕ) → below (is x) n ≡ once_below x n
below-is x zero = sym (once_below-no x 0 (omega arith))
below-is x (suc n) = dite (ℕ_discrete n x)
    (λ e. omega
    (arith, below-is x n, is-same x n e, once_below-no x n (omega arith), once_below-yes x (suc n) (omega arith)))
    (λ ne. dite (dec_le n x)
    (λ le. omega (arith, below-is x n, is-other x n ne, once_below-no x n le, once_below-no x (suc n) (omega arith)))
    (λ lt. omega (
      arith,
      below-is x n,
      is-other x n ne,
      once_below-yes x n (lt_of_not-le lt),
      once_below-yes x (suc n) (omega (arith, lt_of_not-le lt)),
    )))

pub once_below-le : (x n : ℕ) → once_below x n ≤ 1
once_below-le x n = dite (dec_le n x) (λ le. omega (arith, once_below-no x n le))
    (λ lt. omega (arith, once_below-yes x n (lt_of_not-le lt)))

-- numbers below n, all of which count
pub total-once_below : (n : ℕ) (xs : List ℕ) → Each (λ t. t < n) xs → total (λ x. once_below x n) xs ≡ length xs
total-once_below n [] h = refl
total-once_below n (x ∷ xs) h = omega (arith, once_below-yes x n h.0, total-once_below n xs h.1)

-- the numbers from n on
abbrev pub from : ℕ → ℕ → ℕ
from n x = cond (ltb x n) 0 1

pub from-yes : (n x : ℕ) → n ≤ x → from n x ≡ 1
from-yes n x h = ap (λ b. cond b 0 1) (le-ltb x n h)

pub from-no : (n x : ℕ) → x < n → from n x ≡ 0
from-no n x h = ap (λ b. cond b 0 1) (lt-ltb x n h)

pub below-from : (n d : ℕ) → d ≤ n → below (from n) d ≡ 0
below-from n zero h = refl
below-from n (suc d) h = omega (arith, below-from n d (omega arith), from-no n d (omega arith))

-- where none is from n on, each is below n
pub none_from : (n : ℕ) (xs : List ℕ) → total (from n) xs ≡ 0 → Each (λ t. t < n) xs
none_from n [] e = tt
none_from n (x ∷ xs) e = (
  dite (dec_le n x) (λ le. absurd (omega (arith, from-yes n x le))) (λ lt. lt_of_not-le lt),
  none_from n xs (omega arith),
)

module _ {A : Type 0} (f g : A → ℕ) where
  nothing : (l : List A) → ((i : ℕ) (u : A) → get_elem? l i ≡ some u → g u ≡ 0 → f u ≡ 0) → total g l ≡ 0
      → total f l ≡ 0
  nothing [] h e = refl
  nothing (x ∷ xs) h e = omega (arith, h 0 x refl (omega arith), nothing xs (λ i. h (suc i)) (omega arith))

  -- where the whole of g is at one element, and f is 0 where g is, the whole of f is at that element
  pub alone : (l : List A) (j : ℕ) (v : A) → ((i : ℕ) (u : A) → get_elem? l i ≡ some u → g u ≡ 0 → f u ≡ 0)
      → get_elem? l j ≡ some v → total g l ≡ g v → total f l ≡ f v
  alone [] j v h e all = absurd (some-ne-none v (sym e))
  alone (x ∷ xs) zero v h e all = omega
      (arith, ap f (some-injective x v e), nothing xs (λ i. h (suc i)) (omega (arith, ap g (some-injective x v e))))
  alone (x ∷ xs) (suc j) v h e all =
      let here : g x ≡ 0 = omega (arith, term_le g xs j v e) in
      omega (arith, h 0 x refl here, alone xs j v (λ i. h (suc i)) e (omega arith))

-- x does not stand among numbers below n, where it is not below n
pub times-none : (x n : ℕ) (xs : List ℕ) → n ≤ x → Each (λ t. t < n) xs → times x xs ≡ 0
times-none x n [] le h = refl
times-none x n (y ∷ xs) le h = omega (arith, is-other x y (λ e. omega (arith, h.0)), times-none x n xs le h.1)

module _ {A : Type 0} (F : A → Type 0) where
  -- what is true of the only item is true of each
  pub each-only : (x : A) → F x → (i : ℕ) (u : A) → get_elem? (x ∷ []) i ≡ some u → F u
  each-only x holds zero u at = subst F (some-injective x u at) holds
  each-only x holds (suc i) u at = absurd (some-ne-none u (sym at))

  -- where one item became two, what is true of these and of the others is true of each
  pub each-split : (l : List A) (j : ℕ) (left right : A) → F left → F right
      → ((i : ℕ) (u : A) → get_elem? l i ≡ some u → F u)
      → (i : ℕ) (u : A) → get_elem? (set l j left ++ right ∷ []) i ≡ some u → F u
  each-split l j left right first second others i u there = ⊎_elim
      (λ (t : get_elem? (set l j left) i ≡ some u). ⊎_elim
      (λ (e : (i ≡ j) × (left ≡ u)). subst F e.1 first)
      (λ (e : (i ≢ j) × (get_elem? l i ≡ some u)). others i u e.1)
      (at_set l j i left u t))
      (λ (e : right ≡ u). subst F e second)
      (at_snoc (set l j left) right u i there)

  -- where two items became others, what is true of these and of the rest is true of each
  pub each-joined : (l : List A) (j k : ℕ) (joined spent : A) → F joined → F spent
      → ((i : ℕ) (u : A) → get_elem? l i ≡ some u → F u)
      → (i : ℕ) (u : A) → get_elem? (set (set l j joined) k spent) i ≡ some u → F u
  each-joined l j k joined spent first second others i u there = ⊎_elim
      (λ (e : (i ≡ k) × (spent ≡ u)). subst F e.1 second)
      (λ (e : (i ≢ k) × (get_elem? (set l j joined) i ≡ some u)). ⊎_elim
      (λ (t : (i ≡ j) × (joined ≡ u)). subst F t.1 first)
      (λ (t : (i ≢ j) × (get_elem? l i ≡ some u)). others i u t.1)
      (at_set l j i joined u e.1))
      (at_set (set l j joined) k i spent u there)
