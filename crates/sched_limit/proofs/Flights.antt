-- The laws of what is in flight.
use Rattle.std.proofs.Common.{◌≡◌, ℕ, ◌+◌, ◌-◌, ◌*◌, ◌/◌, ◌%◌, ◌<◌, ◌≤◌, min, max, Bool, true, ◌==◌, ◌||◌, leb, refl}
use Rattle.std.proofs.Common.{subst, sym, arith, le-leb, leb-true, eq-eqb}
use Rattle.sched_limit_word.specs.Laws.{word_of}
use Rattle.sched_limit_word.specs.declared.call.Call.{Call}
use Rattle.sched_limit_word.specs.declared.call.Call.TheVariants.{Admit, Draw, Failed, Succeeded, Ended, Returned}
use Rattle.sched_limit_word.specs.declared.call.Call.TheVariants.{Closed, OpenedByHand, ClosedByHand}
use Rattle.sched_limit_word.proofs.Views.{what_is_kept_holds}
use Rattle.sched_limit.specs.InFlight.{flight_next, requests_of, retries_of, bound}
use Rattle.sched_limit.specs.Laws.{GrantsAreWithinTheBound, RequestsStayWithin, is_within}
use Rattle.sched_limit.specs.declared.in_flight.InFlight.{InFlight}
use Rattle.sched_limit.proofs.Cases.{by_lt, or_left, or_right, each_is}

-- a word of so many requests and retries
pub requests_laid : (q r : ℕ) → r < 4294967296 → (q * 4294967296 + r) / 4294967296 ≡ q
requests_laid q r small = omega (arith, small)

pub retries_laid : (q r : ℕ) → r < 4294967296 → (q * 4294967296 + r) % 4294967296 ≡ r
retries_laid q r small = omega (arith, small)

least_of : (n : ℕ) → min n 4294967295 ≤ 4294967295
least_of n = omega arith

module _ (k : InFlight) where
  pub bound_le : (q : ℕ) → bound k q ≤ 4294967295
  bound_le q = least_of (max k.least (k.share * q / 1000))

  -- a retry more, where that is within the bound of so many requests
  granted_within : (q r x : ℕ) → r < bound k q
      → ((retries_of (q * 4294967296 + (r + 1)) == x) || leb (retries_of (q * 4294967296 + (r + 1)))
      (bound k (requests_of (q * 4294967296 + (r + 1))))) ≡ true
  granted_within q r x room =
      let b : ℕ = bound k q in
      let le : b ≤ 4294967295 = bound_le q in
      let here : retries_of (q * 4294967296 + (r + 1)) ≡ r + 1 = retries_laid q (r + 1) (omega (arith, room, le)) in
      let there : requests_of (q * 4294967296 + (r + 1)) ≡ q = requests_laid q (r + 1) (omega (arith, room, le)) in
      or_right (retries_of (q * 4294967296 + (r + 1)) == x)
      (leb (retries_of (q * 4294967296 + (r + 1))) (bound k (requests_of (q * 4294967296 + (r + 1)))))
      (subst (λ (n : ℕ). leb n (bound k (requests_of (q * 4294967296 + (r + 1)))) ≡ true) (sym here)
      (subst (λ (n : ℕ). leb (r + 1) (bound k n) ≡ true) (sym there)
      (le-leb (r + 1) (bound k q) (omega (arith, room)))))

  within : (c : Call) (w : ℕ) → is_within k c w (flight_next k c w) ≡ true
  within (Admit now random before) w = refl
  within (Draw now cost slots) w =
      let q : ℕ = requests_of w in
      let r : ℕ = retries_of w - slots in
      by_lt (λ (x : ℕ). ((retries_of x == r) || leb (retries_of x) (bound k (requests_of x))) ≡ true) r (bound k q)
      (q * 4294967296 + (r + 1)) (q * 4294967296 + r)
      (λ room. granted_within q r r room)
      (λ _. or_left (retries_of (q * 4294967296 + r) == r)
      (leb (retries_of (q * 4294967296 + r)) (bound k (requests_of (q * 4294967296 + r))))
      (eq-eqb (retries_of (q * 4294967296 + r)) r (retries_laid q r (omega arith))))
  within (Failed now generation) w = refl
  within (Succeeded now generation worth) w = refl
  within (Ended slots) w = refl
  within (Returned cost slots) w = refl
  within (Closed now) w = refl
  within (OpenedByHand now until) w = refl
  within (ClosedByHand now) w = refl

  next_has_room : (c : Call) (w : ℕ) → requests_of w ≤ k.most → requests_of (flight_next k c w) ≤ k.most
  next_has_room (Admit now random before) w h =
      by_lt (λ (x : ℕ). requests_of x ≤ k.most) (requests_of w) k.most (w + 4294967296) w
      (λ room. omega (arith, room)) (λ _. h)
  next_has_room (Draw now cost slots) w h =
      let q : ℕ = requests_of w in
      let r : ℕ = retries_of w - slots in
      by_lt (λ (x : ℕ). requests_of x ≤ k.most) r (bound k q) (q * 4294967296 + (r + 1)) (q * 4294967296 + r)
      (λ room. omega (arith, requests_laid q (r + 1) (omega (arith, room, bound_le q)), h))
      (λ _. omega (arith, requests_laid q r (omega arith), h))
  next_has_room (Failed now generation) w h = h
  next_has_room (Succeeded now generation worth) w h = h
  next_has_room (Ended slots) w h = omega (
    arith,
    requests_laid (requests_of w - 1) (retries_of w - slots) (omega arith),
    h,
  )
  next_has_room (Returned cost slots) w h = omega (
    arith,
    requests_laid (requests_of w) (retries_of w - slots) (omega arith),
    h,
  )
  next_has_room (Closed now) w h = h
  next_has_room (OpenedByHand now until) w h = h
  next_has_room (ClosedByHand now) w h = h

pub grants_are_within_the_bound : GrantsAreWithinTheBound
grants_are_within_the_bound k =
    each_is (flight_next k) 0 (λ (w : ℕ). true) (is_within k) (refl, λ c w _. refl) (λ c w _. within k c w)

pub requests_stay_within : RequestsStayWithin
requests_stay_within k s kept =
    let few : ℕ → Bool = λ (w : ℕ). leb (requests_of w) k.most in
    leb-true (requests_of (word_of s)) k.most
    (what_is_kept_holds (flight_next k) 0 s kept few (
      le-leb (requests_of 0) k.most (omega arith),
      λ c w h. le-leb (requests_of (flight_next k c w)) k.most
          (next_has_room k c w (leb-true (requests_of w) k.most h)),
    )).0
