-- What holds of the numbers of a pace: c is a moment on its clock, u what a call uses of the rate, v a whole burst.
use Rattle.std.specs.Int.{div_ceil}
use Rattle.std.proofs.Common.{◌≡◌, ℕ, ◌+◌, ◌-◌, ◌*◌, ◌/◌, ◌<◌, ◌≤◌, max, ap, arith, lt_of_not-le}
use mathlib.Core.Logic.{dite}
use native.Mathlib.Decide.{dec_le}
use Rattle.std.proofs.Math.Nat.{one-le-mul, le-div_iff_mul-le}
use Rattle.std.proofs.lemmas.Nat.{mul-le}

pub spread : (a b e : ℕ) → (a + b) * e ≡ a * e + b * e
spread a b e = grind arith

pub rest_cost : (a b e : ℕ) → b ≤ a → (a - b) * e + b * e ≡ a * e
rest_cost a b e le = let is : (a - b) + b ≡ a = omega (arith, le) in grind (arith, spread (a - b) b e, is)

pub uses_some : (a e : ℕ) → 0 < a → 0 < e → 0 < a * e
uses_some a e some each = omega (arith, one-le-mul {a = a} {b = e} (omega (arith, some)) (omega (arith, each)))

pub burst_small : (b e : ℕ) → b ≤ 1048576 → e ≤ 1099511627776 → b * e ≤ 1152921504606846976
burst_small b e few small = omega (arith, mul-le b e 1048576 1099511627776 few small)

over_use : (t b e : ℕ) → (t - b) * e ≤ t * e - b * e
over_use t b e = dite (dec_le b t)
    (λ le. omega (arith, rest_cost t b e le))
    (λ not-le. let none : t - b ≡ 0 = omega (arith, lt_of_not-le not-le) in
    let nothing : (t - b) * e ≡ 0 * e = ap (λ (x : ℕ). x * e) none in omega (arith, nothing))

over : (t b e n : ℕ) → 0 < e → t * e ≤ n + b * e → t - b ≤ n / e
over t b e n some le =
    (le-div_iff_mul-le {k = e} {x = t - b} {y = n} some).1 (omega (arith, le, over_use t b e))

-- what is used in a time is as many calls as that time has room for
pub le_most : (t b e n : ℕ) → 0 < e → t * e ≤ n + b * e → t ≤ b + n / e
le_most t b e n some le = omega (arith, over t b e n some le)

abbrev pub begins : ℕ → ℕ → ℕ → ℕ → ℕ
begins c u v due = div_ceil (max (1000 * c) (max due (1000 * c) + u - v)) 1000

pub at_once : (c u v due : ℕ) → u ≤ v → due + u ≤ 1000 * c + v → begins c u v due ≡ c
at_once c u v due le fits = omega (arith, le, fits)

pub only_once : (c u v due : ℕ) → begins c u v due ≡ c → due + u ≤ 1000 * c + v
only_once c u v due is = omega (arith, is)

pub begins_first : (c u v due m : ℕ) → u ≤ v → c ≤ m → due + u ≤ 1000 * m + v → begins c u v due ≤ m
begins_first c u v due m le later fits = omega (arith, le, later, fits)

pub first_fits : (c u v due m : ℕ) → begins c u v due ≤ m → due + u ≤ 1000 * m + v
first_fits c u v due m le = omega (arith, le)

pub begins_after : (c u v due : ℕ) → c ≤ begins c u v due
begins_after c u v due = omega arith

pub again_later : (c u v due w : ℕ) → w < begins c u v due - c → c < begins c u v due - w
again_later c u v due w far = omega (arith, far)

pub again_granted : (c u v due w again : ℕ) → u ≤ v → w < begins c u v due - c → begins c u v due - w ≡ again
    → begins again u v due ≡ again + w
again_granted c u v due w again le far is = omega (arith, le, far, is)

pub before_same : (c u v due w b : ℕ) → u ≤ v → w < begins c u v due - c → b < begins c u v due - w
    → begins b u v due ≡ begins c u v due
before_same c u v due w b le far early = omega (arith, le, far, early)

-- what a granted call makes due has 62 bits
pub granted_small : (c u v due w : ℕ) → u ≤ v → v ≤ 1152921504606846976 → w ≤ 137438953472 → c ≤ 2251799813685247
    → begins c u v due - c ≤ w → max due (1000 * c) + u < 4611686018427387904
granted_small c u v due w le few short early near = omega (arith, le, few, short, early, near)

-- a granted call begins so late that a burst fits before it, and less than a millisecond later
pub begins_late : (c u v due : ℕ) → max due (1000 * c) + u ≤ 1000 * begins c u v due + v
begins_late c u v due = omega arith

pub begins_early : (c u v due : ℕ) → u ≤ v → 1000 * begins c u v due + u < max due (1000 * c) + u + 1000
begins_early c u v due le = omega (arith, le)
