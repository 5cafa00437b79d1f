-- Lists with the same numbers, each as often.
use Rattle.std.proofs.Common.{◌≡◌, ℕ, ◌<◌, suc, zero, List, [], ◌∷◌, ◌++◌, map, Option, Some, None, refl, sym, ap}
use Rattle.std.proofs.Common.{subst, arith}
use mathlib.Core.Logic.{dite}
use native.Mathlib.Decide.{ℕ_discrete}
use Rattle.std.specs.Prelude.{Vec, IfSome, IsSomeAnd}
use Rattle.std.specs.declared.alloc.Global.{Global}
use Rattle.std.specs.List.{Contains}
use Rattle.std.specs.List.Sorted.{IsPermutation}
use Rattle.std.proofs.lemmas.List.Recursion.{is_sum_by}
use Rattle.std.proofs.lemmas.List.Sorted.{sum_by-IsPermutation}
use Rattle.sched_ticket.specs.Lists.{total, times, is, IsSame}
use Rattle.sched_ticket.proofs.Sums.{total-append, is-same, is-other}
use Rattle.sched_ticket_quota.specs.Windows.{window_of}
use Rattle.sched_pool_scripted.specs.Windows.{HaveSame, HasDistinct}

-- one more number
same_more : (ws xs more : List ℕ) (w : ℕ) → IsSame ws xs → IsSame more (w ∷ ws) → IsSame more (w ∷ xs)
same_more ws xs more w same longer = λ h. omega (arith, same h, longer h)

-- a number is put at the end
pub pushed_same : (ws : List ℕ) (w : ℕ) → IsSame (ws ++ w ∷ []) (w ∷ ws)
pushed_same ws w = λ h. omega (arith, total-append h ws (w ∷ []))

-- lists one after the other
pub joined_same : (ws xs vs ys : List ℕ) → IsSame ws xs → IsSame vs ys → IsSame (ws ++ vs) (xs ++ ys)
joined_same ws xs vs ys one two = λ h. omega (arith, one h, two h, total-append h ws vs, total-append h xs ys)

-- a list in another order
pub moved_same : (ws moved xs : List ℕ) → IsPermutation ws moved → IsSame ws xs → IsSame moved xs
moved_same ws moved xs order same = λ h.
    let sum-is = is_sum_by (total h) h refl (λ x l. refl) in
    omega (arith, same h, sum-is ws, sum-is moved, sum_by-IsPermutation h ws moved order)

pub mapped_append : (f : ℕ → ℕ) (xs ys : List ℕ) → map f (xs ++ ys) ≡ map f xs ++ map f ys
mapped_append f [] ys = refl
mapped_append f (x ∷ xs) ys = ap (λ l. f x ∷ l) (mapped_append f xs ys)

-- what stands in a list stands there some times
some_times : (xs : List ℕ) (x : ℕ) → Contains xs x → 0 < times x xs
some_times [] x (k, low, at) = absurd (omega (arith, low))
some_times (y ∷ ys) x (zero, low, at) = omega (arith, is-same x y at)
some_times (y ∷ ys) x (suc k, low, at) = omega (arith, some_times ys x (k, omega (arith, low), at))

stands : (xs : List ℕ) (x : ℕ) → 0 < times x xs → Contains xs x
stands [] x some = absurd (omega (arith, some))
stands (y ∷ ys) x some = dite (ℕ_discrete y x)
    (λ here. (0, omega arith, here))
    (λ not. let there = stands ys x (omega (arith, some, is-other x y not)) in
    (suc there.0, omega (arith, there.1), there.2))

pub have_same : (ws xs : List ℕ) → IsSame ws xs → HaveSame ws xs
have_same ws xs same = λ x. (
  λ h. stands xs x (omega (arith, some_times ws x h, same (is x))),
  λ h. stands ws x (omega (arith, some_times xs x h, same (is x))),
)

-- as many different numbers stand in each of them
pub distinct_of_same : (n : ℕ) (ws xs : List ℕ) → HasDistinct n ws → HaveSame ws xs → HasDistinct n xs
distinct_of_same n ws xs has same = record {
  once = has.once;
  rises = has.rises;
  same = λ x. (λ h. (same x).0 ((has.same x).0 h), λ h. (has.same x).1 ((same x).1 h));
  count = has.count;
}

-- the window of one more ticket is noted
pub noted_more : (old new : Option (Vec ℕ Global)) (w t : ℕ) (before after : List ℕ) → w ≡ window_of t
    → after ≡ t ∷ before →
    IfSome old (λ ws. IsSame ws.items (map window_of before)) →
    IfSome new (λ more. IsSomeAnd old (λ ws. IsSame more.items (w ∷ ws.items))) →
    IfSome new (λ ws. IsSame ws.items (map window_of after))
noted_more old None w t before after of grown was noted = tt
noted_more None (Some more) w t before after of grown was noted = absurd noted
noted_more (Some ws) (Some more) w t before after of grown was noted =
    subst (λ (ts : List ℕ). IsSame more.items (map window_of ts)) (sym grown)
    (subst (λ (v : ℕ). IsSame more.items (v ∷ map window_of before)) of
    (same_more ws.items (map window_of before) more.items w was noted))
