-- Tests of lists that grow at their end.
use Rattle.std.proofs.Common.{◌≡◌, suc, Bool, true, false, not, List, [], ◌∷◌, ◌++◌, length, Some, refl, ap}
use Rattle.std.specs.List.{list_all, filter}
use Rattle.std.proofs.lemmas.Bool.{and_parts, and_from}
use Rattle.sched_task_law.specs.Lists.{all_but_last, last_is, last_element}

-- a fact of both answers of a test
pub by_test : {P : Type 0} (b : Bool) → (b ≡ true → P) → (b ≡ false → P) → P
by_test {P = P} b = elim b as (λ x. (x ≡ true → P) → (x ≡ false → P) → P)
    [ true ↦ λ yes no. yes refl | false ↦ λ yes no. no refl ]

module _ {A : Type 0} (test : A → Bool) where
  pub all_but_last-push : (xs : List A) (x : A) → list_all test xs ≡ true → all_but_last test (xs ++ x ∷ []) ≡ true
  all_but_last-push [] x all = refl
  all_but_last-push (y ∷ []) x all = all
  all_but_last-push (y ∷ z ∷ xs) x all =
      let parts = and_parts _ _ all in and_from _ _ parts.0 (all_but_last-push (z ∷ xs) x parts.1)

  pub last_is-push : (xs : List A) (x : A) → last_is test (xs ++ x ∷ []) ≡ test x
  last_is-push [] x = refl
  last_is-push (y ∷ []) x = refl
  last_is-push (y ∷ z ∷ xs) x = last_is-push (z ∷ xs) x

  -- where the last fails the test's contrary as well, all pass
  pub all_of : (xs : List A) → all_but_last test xs ≡ true → last_is (λ x. not (test x)) xs ≡ false →
      list_all test xs ≡ true
  all_of [] before last = refl
  all_of (x ∷ []) before last = by_test (test x) (λ yes. and_from _ _ yes refl) (λ no. let bad = rw no at last in cc)
  all_of (x ∷ y ∷ xs) before last =
      let parts = and_parts _ _ before in and_from _ _ parts.0 (all_of (y ∷ xs) parts.1 last)

  -- what all pass a filter leaves whole
  pub length_filter : (xs : List A) → list_all test xs ≡ true → length (filter test xs) ≡ length xs
  length_filter [] all = refl
  length_filter (x ∷ xs) all =
      let here : test x ≡ true = (and_parts _ _ all).0 in
      let rest = length_filter xs (and_parts _ _ all).1 in
      rw here (ap (λ n. suc n) rest)

pub last_element-push : {A : Type 0} (xs : List A) (x : A) → last_element (xs ++ x ∷ []) ≡ Some x
last_element-push [] x = refl
last_element-push (y ∷ []) x = refl
last_element-push (y ∷ z ∷ xs) x = last_element-push (z ∷ xs) x
