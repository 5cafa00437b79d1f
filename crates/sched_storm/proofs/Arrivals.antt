-- When requests come at rates over time.
use Rattle.std.proofs.Common.{◌≡◌, ℕ, zero, suc, ◌+◌, ◌-◌, ◌*◌, ◌/◌, ◌<◌, ◌≤◌, ◌↔◌, min, Bool, true, false, cond, List}
use Rattle.std.proofs.Common.{[], ◌∷◌, refl, inl, inr, ltb-true, ltb-false, arith}
use Rattle.std.proofs.Math.Nat.{div-mul-le_self}
use Rattle.std.proofs.lemmas.Nat.{mul-le, le-div, div_below}
use Rattle.std.proofs.lemmas.Bool.{cases_lt}
use Rattle.std.specs.Prelude.{nat_lt}
use Rattle.sched_storm.specs.Rates.{AreInOrder, thousandths_by, arrives, IsGreatest}
use Rattle.sched_storm.specs.declared.rates.Phase.{Phase}

-- ---- numbers

some_rate : (q m n : ℕ) → n < q * m → 0 < q
some_rate zero m n h = omega arith
some_rate (suc q) m n h = omega arith

-- so many milliseconds at a rate
sent_in : (q n m : ℕ) → m ≤ n / q → q * m ≤ n
sent_in q n m h = omega (arith, mul-le m q (n / q) q h (omega arith), div-mul-le_self n q)

millis_for : (q n m : ℕ) → 0 < q → q * m ≤ n → m ≤ n / q
millis_for q n m some h = le-div m n q some (omega arith)

-- ---- moments

-- before a moment nothing comes from it on
none_before : (rate from : ℕ) (ks : List Phase) (end : ℕ) → AreInOrder from ks → end ≤ from →
    thousandths_by rate from ks end ≡ 0
none_before rate from [] end ok h = let none : end - from ≡ 0 = omega arith in rw none (omega arith)
none_before rate from (k ∷ ks) end ok h =
    let later = ok.0.later in
    let rest = none_before rate k.until ks end ok.1 (omega arith) in
    let none : min k.until end - from ≡ 0 = omega arith in
    rw none (omega arith)

at_last : (rate from n t : ℕ) → 1 ≤ rate → (t ≤ from + n / rate) ↔ (rate * (t - from) ≤ n)
at_last rate from n t some = (
  λ h. sent_in rate n (t - from) (omega arith),
  λ h. let few = millis_for rate n (t - from) some h in omega arith,
)

-- in a phase in which it comes, where nothing comes of later ones before their beginning
in_phase : (q from until n t rest : ℕ) → from < until → n < q * (until - from) → (t ≤ until → rest ≡ 0) →
    (t ≤ from + n / q) ↔ (q * (min until t - from) + rest ≤ n)
in_phase q from until n t rest later here none =
    let some = some_rate q (until - from) n here in
    let soon : n / q < until - from = div_below n q (until - from) some (omega arith) in (
      λ h.
          let no_rest = none (omega arith) in
          let same : min until t ≡ t = omega arith in
          let sent = sent_in q n (t - from) (omega arith) in
          rw same (omega arith),
      λ h. let few = millis_for q n (min until t - from) some (omega arith) in omega arith,
    )

-- past a phase
past_phase : (q from until n t rest moment : ℕ) → from < until → q * (until - from) ≤ n → until ≤ moment →
    ((t ≤ moment) ↔ (rest ≤ n - q * (until - from))) →
    (t ≤ moment) ↔ (q * (min until t - from) + rest ≤ n)
past_phase q from until n t rest moment later here after same = (
  λ h.
      let rest_le = same.0 h in
      let sent = mul-le q (min until t - from) q (until - from) (omega arith) (omega arith) in
      omega arith,
  λ h. elim (cases_lt t until) [
    | inl early ↦ omega arith
    | inr late ↦
        let whole : min until t ≡ until = omega arith in
        let sum = rw whole at h in
        same.1 (omega arith)
  ],
)

-- a phase, and what comes after it
by_phase : (q from until n t rest moment : ℕ) → from < until → (t ≤ until → rest ≡ 0) → until ≤ moment →
    ((t ≤ moment) ↔ (rest ≤ n - q * (until - from))) → (b : Bool) → nat_lt n (q * (until - from)) ≡ b →
    (t ≤ cond b (from + n / q) moment) ↔ (q * (min until t - from) + rest ≤ n)
by_phase q from until n t rest moment later none after same true is =
    in_phase q from until n t rest later (ltb-true n (q * (until - from)) is) none
by_phase q from until n t rest moment later none after same false is =
    past_phase q from until n t rest moment later (ltb-false n (q * (until - from)) is) after same

-- the moment of so many thousandths is the greatest by which no more come
pub is_greatest : (rate from : ℕ) (ks : List Phase) (n : ℕ) → 1 ≤ rate → AreInOrder from ks →
    IsGreatest rate from ks n (arrives rate from ks n)
is_greatest rate from [] n some ok t = at_last rate from n t some
is_greatest rate from (k ∷ ks) n some ok t =
    let left : ℕ = n - k.rate * (k.until - from) in
    let goes_on = is_greatest rate k.until ks left some ok.1 in
    let nothing = none_before rate k.until ks k.until ok.1 (omega arith) in
    by_phase k.rate from k.until n t (thousandths_by rate k.until ks t) (arrives rate k.until ks left) ok.0.later
    (none_before rate k.until ks t ok.1) ((goes_on k.until).1 (omega arith)) (goes_on t)
    (nat_lt n (k.rate * (k.until - from))) refl

-- what comes later in number comes no earlier
pub arrives_rises : (rate : ℕ) (ks : List Phase) (n m : ℕ) → 1 ≤ rate → AreInOrder 0 ks → n ≤ m →
    arrives rate 0 ks n ≤ arrives rate 0 ks m
arrives_rises rate ks n m some ok h =
    let moment : ℕ = arrives rate 0 ks n in
    let few = (is_greatest rate 0 ks n some ok moment).0 (omega arith) in
    (is_greatest rate 0 ks m some ok moment).1 (omega arith)

-- Of requests in their order those come before a moment of which fewer thousandths do.
pub few_before : (rate : ℕ) (ks : List Phase) (end r : ℕ) → 1 ≤ rate → AreInOrder 0 ks →
    (r < (thousandths_by rate 0 ks end + 999) / 1000) ↔ (arrives rate 0 ks (r * 1000) < end)
few_before rate ks end r some ok =
    let same = is_greatest rate 0 ks (r * 1000) some ok end in (
      λ h. elim (cases_lt (arrives rate 0 ks (r * 1000)) end) [
        | inl early ↦ early
        | inr late ↦ let few = same.0 late in omega arith
      ],
      λ h. elim (cases_lt r ((thousandths_by rate 0 ks end + 999) / 1000)) [
        | inl few ↦ few
        | inr many ↦ let late = same.1 (omega arith) in omega arith
      ],
    )
