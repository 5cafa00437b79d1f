-- What is in flight is what was gained and not given back.
use Rattle.std.proofs.Common.{◌≡◌, ℕ, zero, suc, ◌+◌, ◌-◌, ◌*◌, ◌<◌, ◌≤◌, Bool, true, false, cond, ltb, List, [], ◌∷◌}
use Rattle.std.proofs.Common.{refl, ap, ◌∙◌, arith, ltb-true}
use Rattle.sched_limit_word.specs.Laws.{word_of}
use Rattle.sched_limit_word.specs.Rule.{IsRun}
use Rattle.sched_limit_word.specs.Tokens.{UsesItsOwn, gained_by, used_by}
use Rattle.sched_limit_word.specs.declared.call.Call.{Call}
use Rattle.sched_limit_word.specs.declared.call.Call.TheVariants.{Admit, Draw, Failed, Succeeded, Ended, Returned}
use Rattle.sched_limit_word.specs.declared.call.Call.TheVariants.{Closed, OpenedByHand, ClosedByHand}
use Rattle.sched_limit_word.specs.declared.view.Move.{Move}
use Rattle.sched_limit.specs.FlightTokens.{InFlightIsCounted, in_flight, flight_gained, flight_used, flight_tokens}
use Rattle.sched_limit.specs.InFlight.{flight_next, requests_of, retries_of, bound}
use Rattle.sched_limit.specs.declared.in_flight.InFlight.{InFlight}
use Rattle.sched_limit.proofs.Flights.{bound_le, requests_laid, retries_laid}

-- what is of this kind: of the slots, or of the requests
abbrev of_kind : ℕ → ℕ → ℕ → ℕ
of_kind zero slots requests = slots
of_kind (suc kind) slots requests = requests

module _ (k : InFlight) where
  -- a draw that gives back what is in flight, where there is room for one more or not
  draws_counted : (room : Bool) (q r slots kind : ℕ) → (room ≡ true → (r - slots) + 1 < 4294967296) → r < 4294967296
      → of_kind kind slots 0 ≤ r
      → in_flight kind (cond room (q * 4294967296 + ((r - slots) + 1)) (q * 4294967296 + (r - slots)))
      + of_kind kind slots 0
      ≡ of_kind kind r q + of_kind kind (cond room 1 0) 0
  draws_counted true q r slots zero few small le =
      omega (arith, retries_laid q ((r - slots) + 1) (few refl), le)
  draws_counted true q r slots (suc kind) few small le =
      omega (arith, requests_laid q ((r - slots) + 1) (few refl))
  draws_counted false q r slots zero few small le =
      omega (arith, retries_laid q (r - slots) (omega (arith, small)), le)
  draws_counted false q r slots (suc kind) few small le =
      omega (arith, requests_laid q (r - slots) (omega (arith, small)))

  admits_counted : (room : Bool) (w kind : ℕ)
      → in_flight kind (cond room (w + 4294967296) w)
      ≡ in_flight kind w + of_kind kind 0 (cond room 1 0)
  admits_counted true w zero = omega arith
  admits_counted true w (suc kind) = omega arith
  admits_counted false w zero = omega arith
  admits_counted false w (suc kind) = omega arith

  abbrev Counted : Call → ℕ → ℕ → Type 0
  Counted c w kind =
      in_flight kind (flight_next k c w) + flight_used c kind ≡ in_flight kind w + flight_gained k c kind w

  small : (w : ℕ) → retries_of w < 4294967296
  small w = omega arith

  counted : (c : Call) (w kind : ℕ) → flight_used c kind ≤ in_flight kind w → Counted c w kind
  counted (Admit now random before) w zero le =
      omega (arith, admits_counted (ltb (requests_of w) k.most) w zero)
  counted (Admit now random before) w (suc kind) le =
      omega (arith, admits_counted (ltb (requests_of w) k.most) w (suc kind))
  counted (Draw now cost slots) w zero le =
      draws_counted (ltb (retries_of w - slots) (bound k (requests_of w))) (requests_of w) (retries_of w) slots zero
      (λ room. omega (
        arith,
        ltb-true (retries_of w - slots) (bound k (requests_of w)) room,
        bound_le k (requests_of w),
      ))
      (small w) le
  counted (Draw now cost slots) w (suc kind) le =
      draws_counted (ltb (retries_of w - slots) (bound k (requests_of w))) (requests_of w) (retries_of w) slots
      (suc kind)
      (λ room. omega (
        arith,
        ltb-true (retries_of w - slots) (bound k (requests_of w)) room,
        bound_le k (requests_of w),
      ))
      (small w) (omega arith)
  counted (Failed now generation) w zero le = omega arith
  counted (Failed now generation) w (suc kind) le = omega arith
  counted (Succeeded now generation worth) w zero le = omega arith
  counted (Succeeded now generation worth) w (suc kind) le = omega arith
  counted (Ended slots) w zero le =
      omega (arith, retries_laid (requests_of w - 1) (retries_of w - slots) (omega (arith, small w)), le)
  counted (Ended slots) w (suc kind) le =
      omega (arith, requests_laid (requests_of w - 1) (retries_of w - slots) (omega (arith, small w)), le)
  counted (Returned cost slots) w zero le =
      omega (arith, retries_laid (requests_of w) (retries_of w - slots) (omega (arith, small w)), le)
  counted (Returned cost slots) w (suc kind) le =
      omega (arith, requests_laid (requests_of w) (retries_of w - slots) (omega (arith, small w)))
  counted (Closed now) w zero le = omega arith
  counted (Closed now) w (suc kind) le = omega arith
  counted (OpenedByHand now until) w zero le = omega arith
  counted (OpenedByHand now until) w (suc kind) le = omega arith
  counted (ClosedByHand now) w zero le = omega arith
  counted (ClosedByHand now) w (suc kind) le = omega arith

  -- what is used, the word has
  word_has : (u used gained there : ℕ) → (0 < u → u + used ≤ gained) → there + used ≡ gained → u ≤ there
  word_has zero used gained there may is = omega arith
  word_has (suc u) used gained there may is = omega (arith, may (omega arith), is)

  run_counted : (run : List Move) (word kind : ℕ) → IsRun (flight_next k) 0 run word
      → UsesItsOwn (flight_tokens k) run
      → in_flight kind word + used_by (flight_tokens k) kind run ≡ gained_by (flight_tokens k) kind run
  run_counted [] word zero r own = omega (arith, r)
  run_counted [] word (suc kind) r own = omega (arith, r)
  run_counted (m ∷ run) word kind r own =
      let before = run_counted run m.found kind r.2 own.1 in
      let le = word_has (flight_used m.call kind) (used_by (flight_tokens k) kind run)
      (gained_by (flight_tokens k) kind run) (in_flight kind m.found) (own.0 kind) before in
      omega (arith, ap (in_flight kind) (r.0 ∙ r.1), counted m.call m.found kind le, before)

pub in_flight_is_counted : InFlightIsCounted
in_flight_is_counted k s owned kind = omega (
  arith,
  run_counted k owned.kept.run (word_of s) kind owned.kept.is_run owned.own,
  owned.kept.shared (λ (m : Move). flight_used m.call kind),
  owned.kept.shared (λ (m : Move). flight_gained k m.call kind m.found),
)
