-- The next number of a sequence, from the capped numbers that a state keeps.
use Rattle.std.proofs.Common.{◌≡◌, ℕ, zero, suc, ◌+◌, ◌-◌, ◌*◌, ◌^◌, ◌≤◌, sym, ap, ◌∙◌, inl, inr, arith}
use Rattle.std.specs.Prelude.{◌/◌}
use Rattle.std.proofs.lemmas.Bool.{cases_lt}
use Rattle.std.proofs.Math.Nat.{pow-zero, pow-suc, mul_comm, mul-div_cancel}
use Rattle.sched_time.specs.Capped.{capped}
use Rattle.sched_time.specs.declared.numbers.TheConstants.{FAR}
use Rattle.sched_plan.specs.Sequences.{linear_at, exponential_at, times_applied, milli_at, fib, fibonacci_at, unfold_at}

-- a product with a number that stops at FAR stops where the product does
pub capped_times : (b n : ℕ) → capped (b * capped n) ≡ capped (b * n)
capped_times zero n = omega arith
capped_times (suc b) n = elim (cases_lt FAR n) [
  | inl past ↦ omega arith
  | inr within ↦ ap (λ m. capped (suc b * m)) (omega arith)
]

capped_product : (x k : ℕ) → capped (capped x * k) ≡ capped (x * k)
capped_product x k = ap capped (mul_comm (capped x) k) ∙ capped_times k x ∙ ap capped (mul_comm k x)

-- linear, from a count that stops at FAR
pub linear_at-capped : (b n : ℕ) → linear_at b (capped n) ≡ linear_at b n
linear_at-capped b n = capped_times b n

no_power : (b k : ℕ) → b ≤ FAR → capped (b * k ^ 0) ≡ b
no_power b k small = ap (λ x. capped (b * x)) (pow-zero k) ∙ omega arith

pub exponential_at-next : (b k n : ℕ) → capped (exponential_at b k (n + 1) * k) ≡ exponential_at b k (n + 1 + 1)
exponential_at-next b k n =
    let before : n + 1 - 1 ≡ n = omega arith in
    let after : n + 1 + 1 - 1 ≡ suc n = omega arith in
    let true_product : b * k ^ suc n ≡ b * k ^ n * k = ap (λ x. b * x) (pow-suc k n) ∙ omega arith in
    ap (λ m. capped (capped (b * k ^ m) * k)) before
    ∙ capped_product (b * k ^ n) k
    ∙ ap capped (sym true_product)
    ∙ ap (λ m. capped (b * k ^ m)) (sym after)

pub milli_at-next : (b k n : ℕ) → capped (milli_at b k (n + 1) * k / 1000) ≡ milli_at b k (n + 1 + 1)
milli_at-next b k n =
    let step : ℕ → ℕ = λ x. capped (x * k / 1000) in
    let before : n + 1 - 1 ≡ n = omega arith in
    let after : n + 1 + 1 - 1 ≡ suc n = omega arith in
    ap (λ m. step (times_applied m step b)) before ∙ ap (λ m. times_applied m step b) (sym after)

pub unfold_at-next : (s m a n : ℕ) → capped (m * unfold_at s m a (n + 1) + a) ≡ unfold_at s m a (n + 1 + 1)
unfold_at-next s m a n =
    let step : ℕ → ℕ = λ x. capped (m * x + a) in
    let before : n + 1 - 1 ≡ n = omega arith in
    let after : n + 1 + 1 - 1 ≡ suc n = omega arith in
    ap (λ i. step (times_applied i step s)) before ∙ ap (λ i. times_applied i step s) (sym after)

capped_sum : (m n : ℕ) → capped (capped m + capped n) ≡ capped (m + n)
capped_sum m n = omega arith

pub fibonacci_at-next : (a n : ℕ) → capped (fibonacci_at a n + fibonacci_at a (n + 1)) ≡ fibonacci_at a (n + 1 + 1)
fibonacci_at-next a n =
    let next : n + 1 ≡ suc n = omega arith in
    let after : n + 1 + 1 ≡ suc (suc n) = omega arith in
    let true_sum : a * (fib (suc n) + fib n) ≡ a * fib n + a * fib (suc n) = omega arith in
    ap (λ m. capped (fibonacci_at a n + fibonacci_at a m)) next
    ∙ capped_sum (a * fib n) (a * fib (suc n))
    ∙ ap capped (sym true_sum)
    ∙ ap (fibonacci_at a) (sym after)

-- in whole factors a sequence in thousandths is the exponential one
applied-exponential : (b k m : ℕ) → b ≤ FAR →
    times_applied m (λ x. capped (x * (1000 * k) / 1000)) b ≡ capped (b * k ^ m)
applied-exponential b k zero small = sym (no_power b k small)
applied-exponential b k (suc m) small =
    let thousandths : (x : ℕ) → x * (1000 * k) / 1000 ≡ x * k = λ x.
    ap (λ y. y / 1000) (let same : x * (1000 * k) ≡ x * k * 1000 = omega arith in same)
    ∙ mul-div_cancel (x * k) (omega arith) in
    ap (λ x. capped (x * (1000 * k) / 1000)) (applied-exponential b k m small)
    ∙ ap capped (thousandths (capped (b * k ^ m)))
    ∙ capped_product (b * k ^ m) k
    ∙ ap capped (let same : b * k ^ m * k ≡ b * (k ^ m * k) = omega arith in same ∙ ap (λ x. b * x) (sym (pow-suc k m)))

pub milli_at-exponential : (b k n : ℕ) → b ≤ FAR → milli_at b (1000 * k) n ≡ exponential_at b k n
milli_at-exponential b k n small = applied-exponential b k (n - 1) small
