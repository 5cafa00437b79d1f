-- When a slice ends that begins in a window, or before it.
use Rattle.std.proofs.Common.{◌≡◌, ◌≢◌, ℕ, zero, suc, ◌+◌, ◌-◌, ◌*◌, ◌/◌, ◌%◌, ◌<◌, ◌≤◌, min, inl, inr, cond, ap, arith}
use Rattle.std.proofs.Common.{lt-ltb, le-ltb, eq-eqb, ne_eqb, lt_of_not-le, ◌∙◌}
use Rattle.std.specs.Prelude.{if◌then◌else◌, ◌==◌}
use Rattle.std.proofs.lemmas.Nat.{mod-mul-add, div-add-mod'}
use mathlib.Core.Logic.{dite}
use native.Mathlib.Decide.{dec_le}
use Rattle.sched_ticket_lease.specs.Requests.{Asked, stretch, left_of, slice_end}
use Rattle.sched_ticket_lease.specs.Histories.{IsTimely}

-- how long a window is, and a slice at most
abbrev pub window_of : ℕ → ℕ
window_of period = if period == 0 then 4611686018427387904 else period

abbrev pub longest : ℕ → ℕ
longest period = if period == 0 then 4611686018427387904 else stretch period

module _ (period : ℕ) where
  no-windows : period ≤ 0 → (window_of period ≡ 4611686018427387904) × (longest period ≡ 4611686018427387904)
  no-windows le =
      let e : period ≡ 0 = omega arith in (
        ap (λ b. cond b 4611686018427387904 period) (eq-eqb period 0 e),
        ap (λ b. cond b 4611686018427387904 (stretch period)) (eq-eqb period 0 e),
      )

  windows : 0 < period → (window_of period ≡ period) × (longest period ≡ stretch period)
  windows lt =
      let ne : period ≢ 0 = omega arith in (
        ap (λ b. cond b 4611686018427387904 period) (ne_eqb period 0 ne),
        ap (λ b. cond b 4611686018427387904 (stretch period)) (ne_eqb period 0 ne),
      )

  -- thirty-one slices are no shorter than a window
  pub slices-fit : window_of period ≤ 31 * longest period
  slices-fit = dite (dec_le period 0)
      (λ none. let e = no-windows none in omega (arith, e.0, e.1))
      (λ not. let e = windows (lt_of_not-le not) in omega (arith, e.0, e.1))

pub mul-up : (a b p : ℕ) → a ≤ b → a * p ≤ b * p
mul-up a b p le = grind arith

pub mul-more : (k p : ℕ) → suc k * p ≡ k * p + p
mul-more k p = grind arith

module _ (since now : ℕ) (a : Asked) where
  end-none : a.period ≤ 0 → slice_end a now ≡ 4611686018427387904
  end-none le =
      let e : a.period ≡ 0 = omega arith in
      ap (λ b. cond b 4611686018427387904 (now + min (left_of a now) (stretch a.period))) (eq-eqb a.period 0 e)

  end-some : 0 < a.period → slice_end a now ≡ now + min (left_of a now) (stretch a.period)
  end-some lt =
      let ne : a.period ≢ 0 = omega arith in
      ap (λ b. cond b 4611686018427387904 (now + min (left_of a now) (stretch a.period))) (ne_eqb a.period 0 ne)

  left-short : now < a.border → left_of a now ≡ a.border - now
  left-short lt = ap (λ b. cond b (a.border - now) (a.period - (now - a.border) % a.period)) (lt-ltb now a.border lt)

  left-long : a.border ≤ now → left_of a now ≡ a.period - (now - a.border) % a.period
  left-long le = ap (λ b. cond b (a.border - now) (a.period - (now - a.border) % a.period)) (le-ltb now a.border le)

  -- what is left of a window that began before it
  left-before : 0 < a.period → a.border ≤ now + a.period → now < since → (k : ℕ) →
      a.border + k * a.period ≡ since + a.period → now + left_of a now ≤ since
  left-before some near lt zero e = absurd (let no : ⊥ = omega arith in no)
  left-before some near lt (suc k) e =
      let p = a.period in
      let at : a.border + k * p ≡ since = omega (arith, mul-more k p) in
      dite (dec_le a.border now)
      (λ past.
      let windows = (now - a.border) / p in
      let whole = div-add-mod' (now - a.border) p in
      let long = left-long past in
      dite (dec_le k windows)
      (λ many. absurd (let no : ⊥ = omega (arith, mul-up k windows p many) in no))
      (λ not. omega (arith, mul-up (suc windows) k p (lt_of_not-le not), mul-more windows p)))
      (λ not. omega (arith, left-short (lt_of_not-le not)))

  left-in : 0 < a.period → now < since + a.period → a.border ≤ now + a.period → since ≤ now → (k : ℕ) →
      a.border + k * a.period ≡ since + a.period → now + left_of a now ≡ since + a.period
  left-in some until near le zero e = omega (arith, left-short (omega arith))
  left-in some until near le (suc k) e =
      let p = a.period in
      let at : a.border + k * p ≡ since = omega (arith, mul-more k p) in
      let since-then : now - a.border ≡ k * p + (now - since) = omega arith in
      let part : (now - a.border) % p ≡ now - since =
      ap (λ x. x % p) since-then ∙ mod-mul-add k p (now - since) (omega arith) in
      omega (arith, left-long (omega arith))

  pub in-window : IsTimely since now a → now < since + window_of a.period
  in-window (inl none) = let e = no-windows a.period (omega (arith, none.0)) in omega (arith, e.0, none.2)
  in-window (inr some) = let e = windows a.period some.0 in omega (arith, e.0, some.1)

  pub ends-before : IsTimely since now a → now < since → slice_end a now ≤ since
  ends-before (inl none) lt = absurd (let no : ⊥ = omega (arith, none.1) in no)
  ends-before (inr some) lt =
      omega (arith, end-some some.0, left-before some.0 some.2 lt some.3.0 some.3.1)

  pub ends-in : IsTimely since now a → since ≤ now →
      slice_end a now ≡ now + min (since + window_of a.period - now) (longest a.period)
  ends-in (inl none) le =
      let e = no-windows a.period (omega (arith, none.0)) in
      omega (arith, e.0, e.1, end-none (omega (arith, none.0)), none.1, none.2)
  ends-in (inr some) le =
      let e = windows a.period some.0 in
      omega (arith, e.0, e.1, end-some some.0, left-in some.0 some.1 some.2 le some.3.0 some.3.1)
