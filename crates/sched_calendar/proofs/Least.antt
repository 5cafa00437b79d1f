-- The least of keys that descend, and of a heap.
use Rattle.std.proofs.Common.{◌≡◌, ℕ, zero, suc, ◌+◌, ◌-◌, ◌<◌, ◌≤◌, false, cond, eqb, eq-eqb}
use Rattle.std.proofs.Common.{List, [], ◌∷◌, ◌++◌, length, get_or, refl, sym, ◌∙◌, ap, subst, arith, add-one}
use Rattle.std.proofs.Common.{◌⊎◌, inl, inr, Option, Some, None, option_to_list, IsSome, IfSome, length-append}
use Rattle.std.proofs.lemmas.Bool.{false≢true}
use Rattle.std.proofs.Math.Nat.{add_comm}
use Rattle.std.proofs.Math.Seq.{get_or-append_seam}
use Rattle.std.proofs.lemmas.List.Sums.{sum_by-cons, sum_by_push}
use Rattle.std.proofs.lemmas.Map.Keys.{ge_from_not_lt}
use Rattle.std.proofs.lemmas.Option.{get_or_from_slice_get, slice_get_cases, none-some}
use Rattle.std.specs.List.{slice_get}
use Rattle.std.proofs.lemmas.List.Sorted.{sum_by-IsPermutation}
use Rattle.std.specs.BinaryHeap.{IsUpperBound, IsHeap, PopsGreatest}
use Rattle.std.specs.List.Sorted.{IsPermutation}
use Rattle.std.specs.Ordering.{nat_cmp, is_lt}
use Rattle.std.specs.declared.cmp.Reverse.{Reverse}
use Rattle.sched_calendar.specs.Keys.{one_if, is_at, times_in, AreFrom, Descend}
use Rattle.sched_calendar.proofs.Rows.{either, is_one}

-- a key stands in a list that begins with it
pub here_first : (x : Reverse ℕ) (xs : List (Reverse ℕ)) → 0 < times_in x.0 (x ∷ xs)
here_first x xs =
    let one = sum_by-cons (is_at x.0) x xs in
    let here : is_at x.0 x ≡ 1 = ap {B = ℕ} (λ b. cond b 1 0) (eq-eqb x.0 x.0 refl) in
    omega arith

-- what holds of the first key of a list and of the others holds of each
each_of : (least k : ℕ) (x : Reverse ℕ) (xs : List (Reverse ℕ)) → least ≤ x.0 → AreFrom least xs →
    0 < times_in k (x ∷ xs) → least ≤ k
each_of least k x xs first others some =
    let one = sum_by-cons (is_at k) x xs in
    elim (either (is_at k x) (times_in k xs) (omega arith)) as (λ _. least ≤ k) [
      | inl here ↦ (let same = is_one x.0 k (eqb x.0 k) here refl in omega arith)
      | inr more ↦ others k more
    ]

-- each key comes no earlier than the next
abbrev Fall : List (Reverse ℕ) → Type 0
Fall xs = (k : ℕ) (d : Reverse ℕ) → suc k < length xs → (get_or xs (suc k) d).0 ≤ (get_or xs k d).0

falls : (xs : List (Reverse ℕ)) → Descend xs → Fall xs
falls xs h k d few = ge_from_not_lt (get_or xs k d).0 (get_or xs (suc k) d).0
    (subst (λ n. is_lt (nat_cmp (get_or xs k d).0 (get_or xs n d).0) ≡ false) (add-one k)
    (h k d (omega arith) (omega arith)))

least_at : (xs : List (Reverse ℕ)) (n : ℕ) (x d : Reverse ℕ) → length xs ≡ suc n → Fall xs → get_or xs n d ≡ x →
    (0 < times_in x.0 xs) × AreFrom x.0 xs
least_at [] n x d long fall is = absurd (omega arith)
least_at (y ∷ []) zero x d long fall is = (
  subst (λ z. 0 < times_in z.0 (y ∷ [])) is (here_first y []),
  λ k some. each_of x.0 k y [] (let same = ap (λ (z : Reverse ℕ). z.0) is in omega arith)
      (λ k none. absurd (omega arith)) some,
)
least_at (y ∷ []) (suc n) x d long fall is = absurd (omega arith)
least_at (y ∷ z ∷ zs) zero x d long fall is = absurd (omega arith)
least_at (y ∷ z ∷ zs) (suc n) x d long fall is =
    let rest = least_at (z ∷ zs) n x d (omega arith) (λ k e few. fall (suc k) e (omega arith)) is in
    let more = sum_by-cons (is_at x.0) y (z ∷ zs) in
    let low = rest.1 z.0 (here_first z zs) in
    let next = fall 0 z (omega arith) in (
      (let some = rest.0 in omega arith),
      λ k some. each_of x.0 k y (z ∷ zs) (omega arith) rest.1 some,
    )

-- what `last` gives is the least
least_by : (xs : List (Reverse ℕ)) (n : ℕ) (x : Reverse ℕ) → n ≡ length xs - 1 → Descend xs →
    slice_get xs n ≡ Some x →
    ((y : Reverse ℕ) × (n < length xs) × (slice_get xs n ≡ Some y) × (get_or xs n y ≡ y))
    ⊎ ((length xs ≤ n) × (slice_get xs n ≡ None)) → (0 < times_in x.0 xs) × AreFrom x.0 xs
least_by xs n x long down is (inl some) =
    least_at xs n x x (let few = some.1 in omega arith) (falls xs down) (get_or_from_slice_get xs n x x is)
least_by xs n x long down is (inr none) = absurd (none-some x (sym none.1 ∙ is))

pub least_last : (xs : List (Reverse ℕ)) (x : Reverse ℕ) → Descend xs → slice_get xs (length xs - 1) ≡ Some x →
    (0 < times_in x.0 xs) × AreFrom x.0 xs
least_last xs x down is =
    least_by xs (length xs - 1) x refl down is (slice_get_cases xs (length xs - 1)).1

-- ---- a heap

least_here : (x : Reverse ℕ) (xs : List (Reverse ℕ)) → IsUpperBound (λ (a b : Reverse ℕ). nat_cmp b.0 a.0) x xs →
    AreFrom x.0 xs
least_here x [] up k some = absurd (omega arith)
least_here x (y ∷ ys) up k some =
    each_of x.0 k y ys (ge_from_not_lt y.0 x.0 up.0) (least_here x ys up.1) some

pub least_top : (xs : List (Reverse ℕ)) (x : Reverse ℕ) → 0 < length xs → x ≡ get_or xs 0 x →
    IsUpperBound (λ (a b : Reverse ℕ). nat_cmp b.0 a.0) x xs → (0 < times_in x.0 xs) × AreFrom x.0 xs
least_top [] x some is up = absurd (omega arith)
least_top (y ∷ ys) x some is up =
    (subst (λ z. 0 < times_in z.0 (y ∷ ys)) (sym is) (here_first y ys), least_here x (y ∷ ys) up)

-- two least keys of a list are one
pub one_least : (xs : List (Reverse ℕ)) (a b : ℕ) → (0 < times_in a xs) × AreFrom a xs →
    (0 < times_in b xs) × AreFrom b xs → a ≡ b
one_least xs a b here there =
    let low = here.1 b there.0 in
    let up = there.1 a here.0 in
    omega arith

-- ---- what is taken

-- the last key of a list that descends is taken out of it
pub taken_last : (old new : List (Reverse ℕ)) (o : Option (Reverse ℕ)) (key : ℕ) → old ≡ new ++ option_to_list o →
    (0 < length old → IsSome o) → Descend old → (0 < times_in key old) × AreFrom key old → (k : ℕ) →
    times_in k old ≡ one_if key k + times_in k new
taken_last [] new o key is some down least k = absurd (let none = least.0 in omega arith)
taken_last (y ∷ ys) new None key is some down least k = absurd (false≢true (some (omega arith)))
taken_last (y ∷ ys) new (Some x) key is some down least k =
    let last = least_at (new ++ x ∷ []) (length new) x x (length-append new (x ∷ []) ∙ add-one (length new))
    (falls (new ++ x ∷ []) (subst Descend is down)) (get_or-append_seam new x [] x) in
    let same = one_least (new ++ x ∷ []) x.0 key last
    (subst (λ xs. (0 < times_in key xs) × AreFrom key xs) is least) in
    ap (times_in k) is ∙ (sum_by_push (is_at k) new x ∙ (ap (λ n. times_in k new + one_if n k) same
    ∙ add_comm (times_in k new) (one_if key k)))

-- the top of a heap is taken out of it
pub taken_top : (old new : List (Reverse ℕ)) (o : Option (Reverse ℕ)) (key : ℕ) →
    IfSome o (λ x. IsPermutation old (x ∷ new)) → IfSome o (λ x. x ≡ get_or old 0 x) →
    IfSome o (λ x. PopsGreatest (λ a b. nat_cmp b.0 a.0) old x new) → IsHeap (λ a b. nat_cmp b.0 a.0) old →
    (0 < length old → IsSome o) → (0 < times_in key old) × AreFrom key old → (k : ℕ) →
    times_in k old ≡ one_if key k + times_in k new
taken_top [] new o key moved top pops heap some least k = absurd (let none = least.0 in omega arith)
taken_top (y ∷ ys) new None key moved top pops heap some least k = absurd (false≢true (some (omega arith)))
taken_top (y ∷ ys) new (Some x) key moved top pops heap some least k =
    let same = one_least (y ∷ ys) x.0 key (least_top (y ∷ ys) x (omega arith) top (pops heap).1) least in
    let all = sum_by-IsPermutation (is_at k) (y ∷ ys) (x ∷ new) moved in
    sym all ∙ (sum_by-cons (is_at k) x new ∙ ap (λ n. one_if n k + times_in k new) same)
