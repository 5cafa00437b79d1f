-- What a changed delay never does.
use Rattle.std.proofs.Common.{◌≡◌, ℕ, ◌+◌, ◌-◌, ◌*◌, ◌^◌, ◌<◌, ◌≤◌, sym, ap, ◌∙◌, arith}
use Rattle.std.proofs.Math.Nat.{mul-add, mul-le-mul, mul-le-mul_right}
use Rattle.sched_time.specs.declared.numbers.TheConstants.{FAR}
use Rattle.sched_plan.specs.Delays.{moved}

-- a start whose delay is changed is never before its event
pub moved-later : (changed : ℕ → ℕ) (now start : ℕ) → now ≤ FAR → now ≤ moved changed now start
moved-later changed now start far = omega arith

-- what the word leaves of its range is exact
pub word_left : (r : ℕ) → r < 2 ^ 32 → (2 ^ 32 - r) + r ≡ 2 ^ 32
word_left r below = omega arith

-- the weights of a jitter of at most ten times are below 2 ^ 46
pub jitter_weight : (low high r : ℕ) → low ≤ high → high ≤ 10000 → r < 2 ^ 32
    → low * (2 ^ 32 - r) + high * r ≤ 10000 * 2 ^ 32
jitter_weight low high r ordered most below =
    let rest : ℕ = 2 ^ 32 - r in
    let lower : low * rest ≤ high * rest = mul-le-mul_right rest ordered in
    let whole : high * rest + high * r ≡ high * 2 ^ 32 =
    sym (mul-add high rest r) ∙ ap (λ x. high * x) (word_left r below) in
    omega (arith, lower, whole)

-- so a jittered delay is computed below 2 ^ 128
pub jitter_fits : (low high r delay : ℕ) → low ≤ high → high ≤ 10000 → r < 2 ^ 32 → delay ≤ FAR →
    delay * (low * (2 ^ 32 - r) + high * r) < 2 ^ 128
jitter_fits low high r delay ordered most below small =
    let product : delay * (low * (2 ^ 32 - r) + high * r) ≤ FAR * (10000 * 2 ^ 32) =
    mul-le-mul small (jitter_weight low high r ordered most below) in
    omega (arith, product)
