-- A sorted list of numbers is the list in ascending order.
use Rattle.std.proofs.Common.{◌≡◌, ℕ, suc, ◌+◌, ◌<◌, ◌≤◌, true, false, cond, if◌then◌else◌, nat_le, ◌==◌, List, [], ◌∷◌}
use Rattle.std.proofs.Common.{length, get_or, sum_by, add-one, zero, inl, inr, refl, sym, ap, subst, ◌∙◌, arith}
use Rattle.std.specs.declared.cmp.Ordering.TheVariants.{Less, Equal, Greater}
use Rattle.std.specs.Ordering.{nat_cmp, is_lt}
use Rattle.std.specs.List.Sorted.{IsPermutation, IsSorted, IsNonDecreasingBy}
use Rattle.std.proofs.lemmas.Bool.{eq-eqb, ne_eqb, le-ltb, leb-true, leb-false, cases_order}
use Rattle.std.proofs.lemmas.List.Sums.{sum_by-cons}
use Rattle.std.proofs.lemmas.List.Sorted.{sum_by-IsPermutation, IsNonDecreasingBy-from_sort}
use Rattle.sched_storm_report.specs.Report.{put_in_order, in_order}

-- a number that is no less than another is not below it
not_below : (x y : ℕ) → y ≤ x → is_lt (nat_cmp x y) ≡ false
not_below x y h =
    ap (λ b. is_lt (cond b Less (cond (x == y) Equal Greater))) (le-ltb x y h)
    ∙ elim (x == y) as (λ b. is_lt (cond b Equal Greater) ≡ false) [
      | true ↦ refl
      | false ↦ refl
    ]

-- the numbers ascend from this one on
abbrev Ascend : ℕ → List ℕ → Type 0
Ascend a [] = Unit {0}
Ascend a (x ∷ xs) = (a ≤ x) × Ascend x xs

-- how often a number stands in a list
abbrev often : ℕ → List ℕ → ℕ
often v [] = 0
often v (x ∷ xs) = cond (x == v) 1 0 + often v xs

often_is : (v : ℕ) (xs : List ℕ) → often v xs ≡ sum_by (λ x. cond (x == v) 1 0) xs
often_is v [] = refl
often_is v (x ∷ xs) = ap (λ n. cond (x == v) 1 0 + n) (often_is v xs) ∙ sym (sum_by-cons (λ x. cond (x == v) 1 0) x xs)

same_often : (xs ys : List ℕ) → IsPermutation xs ys → (v : ℕ) → often v ys ≡ often v xs
same_often xs ys p v = often_is v ys ∙ (sum_by-IsPermutation (λ x. cond (x == v) 1 0) xs ys p ∙ sym (often_is v xs))

-- a number stands in a list that begins with it, and not in one that begins above it
often_first : (x : ℕ) (xs : List ℕ) → 0 < often x (x ∷ xs)
often_first x xs = let e : cond {A = ℕ} (x == x) 1 0 ≡ 1 = ap (λ b. cond {A = ℕ} b 1 0) (eq-eqb x x refl) in omega arith

often_below : (v x : ℕ) (xs : List ℕ) → v < x → Ascend x xs → often v (x ∷ xs) ≡ 0
often_below v x [] low up = ap (λ b. cond b 1 0 + 0) (ne_eqb x v (λ e. omega arith))
often_below v x (y ∷ ys) low up =
    ap (λ b. cond b 1 0 + often v (y ∷ ys)) (ne_eqb x v (λ e. omega arith))
    ∙ ap (λ n. 0 + n) (often_below v y ys (let h = up.0 in omega arith) up.1)

put_often : (v x : ℕ) (ys : List ℕ) → often v (put_in_order x ys) ≡ often v (x ∷ ys)
put_often v x [] = refl
put_often v x (y ∷ ys) = elim (nat_le x y) as (λ b. often v (if b then x ∷ y ∷ ys else y ∷ put_in_order x ys)
    ≡ often v (x ∷ y ∷ ys)) [
      | true ↦ refl
      | false ↦ let e = put_often v x ys in omega arith
    ]

in_order_often : (v : ℕ) (xs : List ℕ) → often v (in_order xs) ≡ often v xs
in_order_often v [] = refl
in_order_often v (x ∷ xs) = put_often v x (in_order xs) ∙ ap (λ n. cond (x == v) 1 0 + n) (in_order_often v xs)

put_ascends : (a x : ℕ) (ys : List ℕ) → a ≤ x → Ascend a ys → Ascend a (put_in_order x ys)
put_ascends a x [] low up = (low, tt)
put_ascends a x (y ∷ ys) low up =
    elim (nat_le x y) as (λ b. nat_le x y ≡ b → Ascend a (if b then x ∷ y ∷ ys else y ∷ put_in_order x ys)) [
      | true ↦ λ e. (low, (leb-true x y e, up.1))
      | false ↦ λ e. (up.0, put_ascends y x ys (let h = leb-false x y e in omega arith) up.1)
    ] refl

in_order_ascends : (xs : List ℕ) → Ascend 0 (in_order xs)
in_order_ascends [] = tt
in_order_ascends (x ∷ xs) = put_ascends 0 x (in_order xs) (omega arith) (in_order_ascends xs)

-- numbers that ascend are one list where each stands as often in both
unique : (a : ℕ) (xs ys : List ℕ) → Ascend a xs → Ascend a ys → ((v : ℕ) → often v xs ≡ often v ys) → xs ≡ ys
unique a [] [] up up' same = refl
unique a [] (y ∷ ys) up up' same = absurd (let e = same y in let some = often_first y ys in omega arith)
unique a (x ∷ xs) [] up up' same = absurd (let e = same x in let some = often_first x xs in omega arith)
unique a (x ∷ xs) (y ∷ ys) up up' same = elim (cases_order x y) [
  | inl e ↦
      let rest : xs ≡ ys = unique x xs ys up.1 (subst (λ z. Ascend z ys) (sym e) up'.1) (λ v.
      let all = same v in
      let first : cond {A = ℕ} (x == v) 1 0 ≡ cond {A = ℕ} (y == v) 1 0 = ap (λ z. cond {A = ℕ} (z == v) 1 0) e in
      omega arith) in
      λ i. e i ∷ rest i
  | inr o ↦ absurd (elim o [
    | inl low ↦ let none = often_below x y ys low up'.1 in let e = same x in let some = often_first x xs in omega arith
    | inr low ↦ let none = often_below y x xs low up.1 in let e = same y in let some = often_first y ys in omega arith
  ])
]

ascends_from : (a : ℕ) (xs : List ℕ) → ((d : ℕ) → 0 < length xs → a ≤ get_or xs 0 d) → IsNonDecreasingBy (λ x. x) xs →
    Ascend a xs
ascends_from a [] low up = tt
ascends_from a (x ∷ xs) low up = (
  low 0 (omega arith),
  ascends_from x xs (λ d some. up 0 1 d (omega arith) (omega arith))
      (λ i j d order short. up (suc i) (suc j) d (omega arith) (omega arith)),
)

-- what a sort gives
pub sorted_is : (xs ys : List ℕ) → IsPermutation xs ys → IsSorted nat_cmp ys → ys ≡ in_order xs
sorted_is xs ys permuted sorted =
    unique 0 ys (in_order xs) (ascends_from 0 ys (λ d some. omega arith) (IsNonDecreasingBy-from_sort
    (λ x. x) ys sorted))
    (in_order_ascends xs) (λ v. same_often xs ys permuted v ∙ sym (in_order_often v xs))

put_length : (x : ℕ) (ys : List ℕ) → length (put_in_order x ys) ≡ suc (length ys)
put_length x [] = refl
put_length x (y ∷ ys) = elim (nat_le x y) as (λ b. length (if b then x ∷ y ∷ ys else y ∷ put_in_order x ys)
    ≡ suc (suc (length ys))) [
      | true ↦ refl
      | false ↦ ap suc (put_length x ys)
    ]

pub length_in_order : (xs : List ℕ) → length (in_order xs) ≡ length xs
length_in_order [] = refl
length_in_order (x ∷ xs) = put_length x (in_order xs) ∙ ap suc (length_in_order xs)

-- of numbers that ascend none is less than the one before it
first_ascends : (a : ℕ) (xs : List ℕ) (d : ℕ) → Ascend a xs → 0 < length xs → a ≤ get_or xs 0 d
first_ascends a [] d up some = absurd (omega arith)
first_ascends a (x ∷ xs) d up some = up.0

sorted_from : (a : ℕ) (xs : List ℕ) → Ascend a xs → (k d : ℕ) → suc k < length xs → get_or xs k d ≤ get_or xs (suc k) d
sorted_from a [] up k d short = absurd (omega arith)
sorted_from a (x ∷ xs) up zero d short = first_ascends x xs d up.1 (omega arith)
sorted_from a (x ∷ xs) up (suc k) d short = sorted_from x xs up.1 k d (omega arith)

pub in_order_sorted : (xs : List ℕ) → IsSorted nat_cmp (in_order xs)
in_order_sorted xs = λ k d low short.
    let up = sorted_from 0 (in_order xs) (in_order_ascends xs) k d (omega arith) in
    rw add-one (not_below (get_or (in_order xs) (suc k) d) (get_or (in_order xs) k d) up)
