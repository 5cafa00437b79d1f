-- The laws of a throttle.
use Rattle.std.proofs.Common.{◌≡◌, ℕ, ◌+◌, ◌-◌, ◌*◌, ◌/◌, ◌<◌, ◌≤◌, min, Bool, true, false, not, ltb, ◌==◌}
use Rattle.std.proofs.Common.{◌%◌, ◌&&◌, ◌||◌, refl, le-ltb, eqb-true}
use Rattle.std.proofs.Common.{◌∙◌, subst, arith, eq-eqb, sym, ap, zero, suc}
use Rattle.std.proofs.lemmas.Nat.{div-mul-add}
use Rattle.sched_limit_word.specs.declared.call.Call.{Call}
use Rattle.sched_limit_word.specs.declared.call.Call.TheVariants.{Admit, Draw, Failed, Succeeded, Ended, Returned}
use Rattle.sched_limit_word.specs.declared.call.Call.TheVariants.{Closed, OpenedByHand, ClosedByHand}
use Rattle.sched_limit.specs.Window.{window_of, is_closed, requests_in, accepts_in, counted, requests_at, accepts_at}
use Rattle.sched_limit.specs.Window.{is_open_to}
use Rattle.sched_limit.specs.Throttle.{throttle_next, window_at, asks_in, accepted_in, closed_in}
use Rattle.sched_limit.specs.Laws.{ClosedIsFinal, ClosedIsShut, EachIsCounted, is_forward, is_counted, counts_as}
use Rattle.sched_limit.specs.Laws.{accepts_as}
use Rattle.sched_limit.specs.Turns.{has_closed}
use Rattle.sched_limit.specs.declared.throttle.Throttle.{Throttle}
use Rattle.sched_limit.proofs.Cases.{by_eq, by_bool, or_left, or_right, and_both, and_left, and_right, and_no_right}
use Rattle.sched_limit.proofs.Cases.{each_is}

-- a moment is in the window whose borders lie around it
between : (p s g : ℕ) → s < g * p → g * p - s ≤ p → s / p + 1 ≡ g
between p s zero before near = absurd (omega (arith, before))
between p s (suc k) before near =
    let split : s ≡ k * p + (s - k * p) = omega (arith, before, near) in
    let rest : s - k * p < p = omega (arith, before, near) in
    let quotient : s / p ≡ k = ap (λ (n : ℕ). n / p) split ∙ div-mul-add k p (s - k * p) rest in
    omega (arith, quotient)

pub is_window : (t : Throttle) (now g : ℕ) → now - t.start < g * t.period → g * t.period - (now - t.start) ≤ t.period
    → g ≤ 8388607 → g ≡ window_at t now
is_window t now g before near few =
    let whole : (now - t.start) / t.period + 1 ≡ g = between t.period (now - t.start) g before near in
    omega (arith, whole, few)

-- a word that fits: at most 1 for closed, and counts of 20 bits
record Fits (closed requests accepts : ℕ) : Type 0 where
  bit : closed ≤ 1
  few_requests : requests < 1048576
  few_accepts : accepts < 1048576

-- what a word says that was laid out
window_laid : (u c n a : ℕ) → Fits c n a → window_of (counted u c n a) ≡ u
window_laid u c n a f = omega (arith, f.bit, f.few_requests, f.few_accepts)

requests_laid : (u c n a : ℕ) → Fits c n a → requests_in (counted u c n a) ≡ n
requests_laid u c n a f = omega (arith, f.bit, f.few_requests, f.few_accepts)

accepts_laid : (u c n a : ℕ) → Fits c n a → accepts_in (counted u c n a) ≡ a
accepts_laid u c n a f = omega (arith, f.bit, f.few_requests, f.few_accepts)

few_requests_at : (u w : ℕ) → requests_at u w < 1048576
few_requests_at u w =
    by_eq (λ (x : ℕ). x < 1048576) (window_of w) u (requests_in w) 0 (λ _. omega arith) (λ _. omega arith)

few_accepts_at : (u w : ℕ) → accepts_at u w < 1048576
few_accepts_at u w =
    by_eq (λ (x : ℕ). x < 1048576) (window_of w) u (accepts_in w) 0 (λ _. omega arith) (λ _. omega arith)

least : (n : ℕ) → min n 1048575 < 1048576
least n = omega arith

fits_asks : (u w : ℕ) → Fits 0 (min (requests_at u w + 1) 1048575) (accepts_at u w)
fits_asks u w = record {
  bit = omega arith;
  few_requests = least (requests_at u w + 1);
  few_accepts = few_accepts_at u w;
}

fits_accepted : (u w : ℕ) → Fits 0 (requests_at u w) (min (accepts_at u w + 1) 1048575)
fits_accepted u w = record {
  bit = omega arith;
  few_requests = few_requests_at u w;
  few_accepts = least (accepts_at u w + 1);
}

fits_closed : (u w : ℕ) → Fits 1 (requests_at u w) (accepts_at u w)
fits_closed u w = record {
  bit = omega arith;
  few_requests = few_requests_at u w;
  few_accepts = few_accepts_at u w;
}

-- what takes counts of a window is left in it, and was not closed in it
goes_on : (k : Call) (u c n a w : ℕ) → Fits c n a → is_open_to u w ≡ true → is_forward k w (counted u c n a) ≡ true
goes_on k u c n a w f takes = or_right (counted u c n a == w)
    (ltb (window_of w) (window_of (counted u c n a))
    || ((window_of w == window_of (counted u c n a)) && not (is_closed w)))
    (subst (λ (v : ℕ). (ltb (window_of w) v || ((window_of w == v) && not (is_closed w))) ≡ true)
    (sym (window_laid u c n a f)) takes)

-- a word that is left as it is
stays : (k : Call) (w : ℕ) → is_forward k w w ≡ true
stays k w = or_left (w == w) (ltb (window_of w) (window_of w) || ((window_of w == window_of w) && not (is_closed w)))
    (eq-eqb w w refl)

-- what is laid out counts as its call says
lays : (k : Call) (u c n a w : ℕ) → Fits c n a → n ≡ counts_as k (requests_at u w) (accepts_at u w)
    → a ≡ accepts_as k (requests_at u w) (accepts_at u w) → is_counted k w (counted u c n a) ≡ true
lays k u c n a w f asked accepted =
    let x : ℕ = counted u c n a in
    let here : window_of x ≡ u = window_laid u c n a f in
    let requests : ℕ → ℕ = λ v. counts_as k (requests_at v w) (accepts_at v w) in
    let accepts : ℕ → ℕ = λ v. accepts_as k (requests_at v w) (accepts_at v w) in
    or_right (x == w) ((requests_in x == requests (window_of x)) && (accepts_in x == accepts (window_of x)))
    (and_both (requests_in x == requests (window_of x)) (accepts_in x == accepts (window_of x))
    (eq-eqb (requests_in x) (requests (window_of x)) (requests_laid u c n a f ∙ asked ∙ ap requests (sym here)))
    (eq-eqb (accepts_in x) (accepts (window_of x)) (accepts_laid u c n a f ∙ accepted ∙ ap accepts (sym here))))

same : (k : Call) (w : ℕ) → is_counted k w w ≡ true
same k w = or_left (w == w)
    ((requests_in w == counts_as k (requests_at (window_of w) w) (accepts_at (window_of w) w))
    && (accepts_in w == accepts_as k (requests_at (window_of w) w) (accepts_at (window_of w) w)))
    (eq-eqb w w refl)

module _ (t : Throttle) where
  forward : (k : Call) (w : ℕ) → is_forward k w (throttle_next t k w) ≡ true
  forward (Admit now random before) w =
      let k : Call = Admit now random before in
      let u : ℕ = window_at t now in
      by_bool (λ (x : ℕ). is_forward k w x ≡ true) (is_open_to u w) (asks_in u w) w
      (goes_on k u 0 (min (requests_at u w + 1) 1048575) (accepts_at u w) w (fits_asks u w)) (λ _. stays k w)
  forward (Draw now cost slots) w = stays (Draw now cost slots) w
  forward (Failed now generation) w = stays (Failed now generation) w
  forward (Succeeded now generation worth) w =
      let k : Call = Succeeded now generation worth in
      let u : ℕ = window_at t now in
      by_bool (λ (x : ℕ). is_forward k w x ≡ true) (is_open_to u w) (accepted_in u w) w
      (goes_on k u 0 (requests_at u w) (min (accepts_at u w + 1) 1048575) w (fits_accepted u w)) (λ _. stays k w)
  forward (Ended slots) w = stays (Ended slots) w
  forward (Returned cost slots) w = stays (Returned cost slots) w
  forward (OpenedByHand now until) w = stays (OpenedByHand now until) w
  forward (ClosedByHand now) w = stays (ClosedByHand now) w
  forward (Closed now) w =
      let k : Call = Closed now in
      let u : ℕ = window_at t now - 1 in
      by_bool (λ (x : ℕ). is_forward k w x ≡ true) (is_open_to u w) (closed_in u w) w
      (goes_on k u 1 (requests_at u w) (accepts_at u w) w (fits_closed u w)) (λ _. stays k w)

  counts : (k : Call) (w : ℕ) → is_counted k w (throttle_next t k w) ≡ true
  counts (Admit now random before) w =
      let k : Call = Admit now random before in
      let u : ℕ = window_at t now in
      by_bool (λ (x : ℕ). is_counted k w x ≡ true) (is_open_to u w) (asks_in u w) w
      (λ _. lays k u 0 (min (requests_at u w + 1) 1048575) (accepts_at u w) w (fits_asks u w) refl refl)
      (λ _. same k w)
  counts (Draw now cost slots) w = same (Draw now cost slots) w
  counts (Failed now generation) w = same (Failed now generation) w
  counts (Succeeded now generation worth) w =
      let k : Call = Succeeded now generation worth in
      let u : ℕ = window_at t now in
      by_bool (λ (x : ℕ). is_counted k w x ≡ true) (is_open_to u w) (accepted_in u w) w
      (λ _. lays k u 0 (requests_at u w) (min (accepts_at u w + 1) 1048575) w (fits_accepted u w) refl refl)
      (λ _. same k w)
  counts (Ended slots) w = same (Ended slots) w
  counts (Returned cost slots) w = same (Returned cost slots) w
  counts (OpenedByHand now until) w = same (OpenedByHand now until) w
  counts (ClosedByHand now) w = same (ClosedByHand now) w
  counts (Closed now) w =
      let k : Call = Closed now in
      let u : ℕ = window_at t now - 1 in
      by_bool (λ (x : ℕ). is_counted k w x ≡ true) (is_open_to u w) (closed_in u w) w
      (λ _. lays k u 1 (requests_at u w) (accepts_at u w) w (fits_closed u w) refl refl) (λ _. same k w)

-- a word that is closed takes no counts of its window, nor of one before
shut : (u w : ℕ) → u ≤ window_of w → is_closed w ≡ true → is_open_to u w ≡ false
shut u w late closed = subst (λ (c : Bool). (c || ((window_of w == u) && not (is_closed w))) ≡ false)
    (sym (le-ltb (window_of w) u late)) (and_no_right (window_of w == u) (not (is_closed w)) (ap not closed))

pub has_closed_shut : (t : Throttle) (now w : ℕ) → has_closed t now w ≡ true →
    is_open_to (window_at t now - 1) w ≡ false
has_closed_shut t now w e =
    let next : window_at t now ≡ window_of w + 1 = eqb-true (window_at t now) (window_of w + 1)
    (and_right (is_closed w) (window_at t now == window_of w + 1) e) in
    shut (window_at t now - 1) w (omega (arith, next)) (and_left (is_closed w) (window_at t now == window_of w + 1) e)

pub closed_is_shut : ClosedIsShut
closed_is_shut t at w =
    let u : ℕ = window_at t at - 1 in
    let f = fits_closed u w in
    by_bool (λ (x : ℕ). is_open_to u x ≡ false) (is_open_to u w) (closed_in u w) w
    (λ _. shut u (closed_in u w) (omega (arith, window_laid u 1 (requests_at u w) (accepts_at u w) f))
    (eq-eqb (closed_in u w / 1099511627776 % 2) 1 (omega (arith, f.bit, f.few_requests, f.few_accepts))))
    (λ same. same)

pub closed_is_final : ClosedIsFinal
closed_is_final t =
    each_is (throttle_next t) 0 (λ (w : ℕ). true) is_forward (refl, λ c w _. refl) (λ c w _. forward t c w)

pub each_is_counted : EachIsCounted
each_is_counted t =
    each_is (throttle_next t) 0 (λ (w : ℕ). true) is_counted (refl, λ c w _. refl) (λ c w _. counts t c w)
