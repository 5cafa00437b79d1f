-- When requests come, at moments that are given or by the rates: no request comes before an earlier one.
use Rattle.std.proofs.Common.{◌≡◌, ℕ, zero, suc, ◌+◌, ◌-◌, ◌*◌, ◌/◌, ◌<◌, ◌≤◌, true, false, cond, List, []}
use Rattle.std.proofs.Common.{◌∷◌, length, get_or, arith}
use Rattle.std.proofs.lemmas.Nat.{mul-le, le-div}
use native.Mathlib.Nat.{div-mul-le_self}
use Rattle.std.specs.Prelude.{◌==◌}
use Rattle.sched_storm.specs.Rates.{phases_of}
use Rattle.sched_storm.specs.Parameters.{RequestsAreInRange, requests_by_rate, comes_by_rate}
use Rattle.sched_storm.specs.Arrivals.{AreRising, AreArrivals, all_requests, comes_at}
use Rattle.sched_storm.specs.declared.parameters.Parameters.{Parameters}
use Rattle.sched_storm.proofs.Arrivals.{arrives_rises}

quotient_rises : (k a b : ℕ) → 0 < k → a ≤ b → a / k ≤ b / k
quotient_rises k a b some h = le-div (a / k) b k some (omega (arith, div-mul-le_self a k, h))

-- by the rates a later request comes no earlier
rises_by_rate : (p : Parameters) (n q : ℕ) → RequestsAreInRange p → n ≤ q → comes_by_rate p n ≤ comes_by_rate p q
rises_by_rate p n q ok h =
    let herd = ok.herd in
    let some = ok.some in
    let group = quotient_rises p.together n q (omega arith) h in
    let start = mul-le (n / p.together) p.together (q / p.together) p.together group (omega arith) in
    arrives_rises p.rate (phases_of p.rates) (n / p.together * p.together * 1000) (q / p.together * p.together * 1000)
    some ok.rates.in_order (omega arith)

-- no moment of those that rise from one on comes before it
from_on : (from : ℕ) (ms : List ℕ) (q : ℕ) → AreRising from ms → q < length ms → from ≤ get_or ms q 0
from_on from [] q h less = absurd (omega arith)
from_on from (m ∷ ms) zero h less = h.0
from_on from (m ∷ ms) (suc q) h less =
    let here = h.0 in
    let rest = from_on m ms q h.2 (omega arith) in
    omega arith

rises : (from : ℕ) (ms : List ℕ) (n q : ℕ) → AreRising from ms → n ≤ q → q < length ms → get_or ms n 0 ≤ get_or ms q 0
rises from [] n q h order less = absurd (omega arith)
rises from (m ∷ ms) zero zero h order less = omega arith
rises from (m ∷ ms) zero (suc q) h order less = from_on m ms q h.2 (omega arith)
rises from (m ∷ ms) (suc n) zero h order less = absurd (omega arith)
rises from (m ∷ ms) (suc n) (suc q) h order less = rises m ms n q h.2 (omega arith) (omega arith)

-- a later request comes no earlier
pub comes_later : (ms : List ℕ) (p : Parameters) (n q : ℕ) → AreArrivals ms → RequestsAreInRange p → n ≤ q →
    q < all_requests ms p → comes_at ms p n ≤ comes_at ms p q
comes_later ms p n q given ok h few =
    (elim (length ms == 0) as (λ b. q < cond b (requests_by_rate p) (length ms) →
    cond b (comes_by_rate p n) (get_or ms n 0) ≤ cond b (comes_by_rate p q) (get_or ms q 0)) [
      | true ↦ λ _. rises_by_rate p n q ok h
      | false ↦ λ less. rises 0 ms n q given.rise h less
    ]) few

-- there are few
pub few_in_all : (ms : List ℕ) (p : Parameters) → AreArrivals ms → RequestsAreInRange p → all_requests ms p ≤ 1048576
few_in_all ms p given ok = elim (length ms == 0) as (λ b. cond b (requests_by_rate p) (length ms) ≤ 1048576) [
  | true ↦ ok.all
  | false ↦ given.few
]

-- of as many calls and requests there are fewer events left after one more
pub fewer_left : (calls all events calls' all' events' : ℕ) → calls' ≡ calls → all' ≡ all → events' ≡ events + 1 →
    events ≤ 2 * calls + all → 2 * calls' + all' + 1 - events' < 2 * calls + all + 1 - events
fewer_left calls all events calls' all' events' same alike one few = omega arith
