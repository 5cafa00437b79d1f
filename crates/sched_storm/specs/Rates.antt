-- Rates over time: phases of a rate, the moment of a request, and how many come by a moment. Requests are counted in
-- thousandths, of which as many come in a millisecond as requests in a second.
use Rattle.std.specs.Prelude.{ℕ, ◌+◌, ◌-◌, ◌*◌, ◌/◌, ◌<◌, ◌≤◌, ◌↔◌, min, nat_lt, if◌then◌else◌, List, [], ◌∷◌, take}
use Rattle.sched_storm.specs.declared.rates.Phase.{Phase}
use Rattle.sched_storm.specs.declared.rates.Rates.{Rates}

-- the phases that there are
abbrev pub phases_of : Rates → List Phase
phases_of r = take r.count r.phases

-- a phase that begins at a moment
pub record IsPhase (from : ℕ) (k : Phase) : Type 0 where
  pub later : from < k.until
  pub early : k.until ≤ 3600000
  pub rate : k.rate ≤ 1000000

-- phases, of which the first begins at a moment, and each where the one before it ends
abbrev pub AreInOrder : ℕ → List Phase → Type 0
AreInOrder from [] = Unit {0}
AreInOrder from (k ∷ ks) = IsPhase from k × AreInOrder k.until ks

pub record AreRates (r : Rates) : Type 0 where
  pub few : r.count ≤ 16
  pub in_order : AreInOrder 0 (phases_of r)

-- how many thousandths come from a moment on and before an end: in these phases, and after the last at this rate
abbrev pub thousandths_by : ℕ → ℕ → List Phase → ℕ → ℕ
thousandths_by rate from [] end = rate * (end - from)
thousandths_by rate from (k ∷ ks) end = k.rate * (min k.until end - from) + thousandths_by rate k.until ks end

-- when so many thousandths have come from a moment on
abbrev pub arrives : ℕ → ℕ → List Phase → ℕ → ℕ
arrives rate from [] n = from + n / rate
arrives rate from (k ∷ ks) n =
    if nat_lt n (k.rate * (k.until - from)) then from + n / k.rate
    else arrives rate k.until ks (n - k.rate * (k.until - from))

-- It is the greatest moment by which no more of them come.
abbrev pub IsGreatest : ℕ → ℕ → List Phase → ℕ → ℕ → Type 0
IsGreatest rate from ks n moment = (t : ℕ) → (t ≤ moment) ↔ (thousandths_by rate from ks t ≤ n)
