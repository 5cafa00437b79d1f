-- The last results as bits, and the failures among them.
use Rattle.std.proofs.Common.{◌≡◌, ◌≢◌, ℕ, zero, suc, ◌+◌, ◌*◌, ◌/◌, ◌%◌, ◌^◌, ◌≤◌, Bool, true, false, cond, leb}
use Rattle.std.proofs.Common.{List, [], ◌∷◌, take, refl, sym, ap, ◌∙◌, arith, le-leb, lt_of_not-le}
use Rattle.std.proofs.lemmas.Bool.{lt-leb}
use Rattle.std.proofs.Math.Nat.{zero-mod, mod-one}
use Rattle.std.proofs.Math.Numerals.{add-one, one-add}
use Rattle.std.proofs.Math.Pow.{mod-pow-add, mod-mod-pow}
use Rattle.std.specs.Int.Count.{ones_step, ones-le}
use Rattle.std.specs.Prelude.{count_ones}
use mathlib.Core.Logic.{dite}
use native.Mathlib.Decide.{dec_le}
use Rattle.sched_limit.specs.Results.{failures_among, failures_in_row, bits}

-- a number of which one bit is shifted in
bit_small : (f : Bool) → cond f 1 0 ≤ 1
bit_small true = omega arith
bit_small false = omega arith

half : (x d : ℕ) → d ≤ 1 → (2 * x + d) / 2 ≡ x
half x d small = omega (arith, small)

low : (x d : ℕ) → d ≤ 1 → (2 * x + d) % 2 ≡ d
low x d small = omega (arith, small)

swapped : (y d n : ℕ) → n % 2 ≡ d → y * 2 + n % 2 ≡ 2 * y + d
swapped y d n e = omega (arith, e)

doubled : (k x d : ℕ) → d ≤ 1 → (2 * x + d) % 2 ^ suc k ≡ 2 * (x % 2 ^ k) + d
doubled k x d small =
    let n : ℕ = 2 * x + d in
    ap (λ (j : ℕ). n % 2 ^ j) (sym (add-one k))
    ∙ mod-pow-add n k 1
    ∙ ap (λ (y : ℕ). (y % 2 ^ k) * 2 + n % 2) (half x d small)
    ∙ swapped (x % 2 ^ k) d n (low x d small)

-- the last so many results are the lowest bits
pub bits_mod : (k : ℕ) (rs : List Bool) → bits (take k rs) ≡ bits rs % 2 ^ k
bits_mod zero rs = sym (mod-one (bits rs))
bits_mod (suc k) [] = sym (zero-mod (2 ^ suc k))
bits_mod (suc k) (f ∷ rs) =
    ap (λ (x : ℕ). 2 * x + cond f 1 0) (bits_mod k rs) ∙ sym (doubled k (bits rs) (cond f 1 0) (bit_small f))

pub shifted : (o : ℕ) (f : Bool) (rs : List Bool) → o ≢ 0
    → (2 * bits (take o rs) + cond f 1 0) % 2 ^ o ≡ bits (take o (f ∷ rs))
shifted zero f rs some = absurd (some refl)
shifted (suc k) f rs some =
    let d : ℕ = cond f 1 0 in
    doubled k (bits (take (suc k) rs)) d (bit_small f)
    ∙ ap (λ (x : ℕ). 2 * x + d)
    (ap (λ (x : ℕ). x % 2 ^ k) (bits_mod (suc k) rs)
    ∙ ap (λ (j : ℕ). bits rs % 2 ^ j % 2 ^ k) (sym (one-add k))
    ∙ mod-mod-pow (bits rs) 1 k
    ∙ sym (bits_mod k rs))

pub ones_bits : (rs : List Bool) → count_ones (bits rs) ≡ failures_among rs
ones_bits [] = omega (arith, ones-le 0 0 (omega arith))
ones_bits (f ∷ rs) =
    let d : ℕ = cond f 1 0 in
    let n : ℕ = 2 * bits rs + d in
    ones_step n
    ∙ ap (λ (x : ℕ). n % 2 + count_ones x) (half (bits rs) d (bit_small f))
    ∙ ap (λ (x : ℕ). n % 2 + x) (ones_bits rs)
    ∙ omega (arith, low (bits rs) d (bit_small f))

-- the failures among so many results are that many where all are failures
among_le : (n : ℕ) (rs : List Bool) → failures_among (take n rs) ≤ n
among_le zero rs = omega arith
among_le (suc n) [] = omega arith
among_le (suc n) (f ∷ rs) = omega (arith, among_le n rs, bit_small f)

leb_more : (n x : ℕ) → leb (suc n) (x + 1) ≡ leb n x
leb_more n x = dite (dec_le n x)
    (λ le. le-leb (suc n) (x + 1) (omega (arith, le)) ∙ sym (le-leb n x le))
    (λ not-le. lt-leb (suc n) (x + 1) (omega (arith, lt_of_not-le not-le)) ∙ sym (lt-leb n x (lt_of_not-le not-le)))

pub all_row : (n : ℕ) (rs : List Bool) → leb n (failures_among (take n rs)) ≡ leb n (failures_in_row rs)
all_row zero rs = le-leb zero (failures_among (take zero rs)) (omega arith)
    ∙ sym (le-leb zero (failures_in_row rs) (omega arith))
all_row (suc n) [] = refl
all_row (suc n) (true ∷ rs) =
    leb_more n (failures_among (take n rs)) ∙ all_row n rs ∙ sym (leb_more n (failures_in_row rs))
all_row (suc n) (false ∷ rs) = lt-leb (suc n) (failures_among (take n rs) + 0) (omega (arith, among_le n rs))
    ∙ sym (lt-leb (suc n) 0 (omega arith))
