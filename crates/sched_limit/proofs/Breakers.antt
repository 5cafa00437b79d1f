-- The laws of a breaker.
use Rattle.std.proofs.Common.{◌≡◌, ℕ, ◌+◌, ◌%◌, ◌<◌, ◌≤◌, min, Bool, true, false, not, cond, ltb}
use Rattle.std.proofs.Common.{leb, ◌==◌, ◌&&◌, ◌||◌, refl, ap, arith, le-leb, leb-true, ltb-true}
use Rattle.std.proofs.Common.{ltb-false, eq-eqb, ne_eqb}
use Rattle.sched_limit_word.specs.Laws.{IsKeptBy}
use Rattle.sched_limit_word.specs.declared.call.Call.{Call}
use Rattle.sched_limit_word.specs.declared.call.Call.TheVariants.{Admit, Draw, Failed, Succeeded, Ended, Returned}
use Rattle.sched_limit_word.specs.declared.call.Call.TheVariants.{Closed, OpenedByHand, ClosedByHand}
use Rattle.sched_limit_word.proofs.Views.{what_is_kept_holds}
use Rattle.sched_limit.specs.Word.{generation_of, count_of, won_of, admitted_of, at_of, trip_of, closed, tripped}
use Rattle.sched_limit.specs.Word.{stamp_of}
use Rattle.sched_limit.specs.Breaker.{since_start, open_for, begins, joins, opens, is_open, is_out, waits, has_room}
use Rattle.sched_limit.specs.Breaker.{probes_in, probed, asked, failed_closed, failed_tripped, failed, won}
use Rattle.sched_limit.specs.Breaker.{succeeded_tripped, succeeded, breaker_next, and_failure, and_success}
use Rattle.sched_limit.specs.Breaker.{failures_kept, next_generation, opened_by_hand, closed_by_hand}
use Rattle.sched_limit.specs.Laws.{ProbesAreFew, OpenIsKept, LateResultsChangeNothing, OpensAfterFailures}
use Rattle.sched_limit.specs.Laws.{has_few_probes, is_kept_open, is_of_now, trips_late}
use Rattle.sched_limit.specs.declared.breaker.Breaker.{Breaker}
use Rattle.sched_limit.proofs.Cases.{by_lt, by_eq, by_bool, or_left, or_right, or_rest, either_bool, or_false}
use Rattle.sched_limit.proofs.Cases.{and_right, and_false, and_no_left, and_no_right, no_demand, some_demand}
use Rattle.sched_limit.proofs.Cases.{not_false, each_is}

-- what a word says that was laid out
pub tripped_odd : (g t a m n : ℕ) → tripped g t a m n % 2 ≡ 1
tripped_odd g t a m n = omega arith

pub closed_even : (g n : ℕ) → closed g n % 2 ≡ 0
closed_even g n = omega arith

pub tripped_admitted : (g t a m n : ℕ) → m < 16 → n < 16 → admitted_of (tripped g t a m n) ≡ m
tripped_admitted g t a m n few-admitted few-won = omega (arith, few-admitted, few-won)

few_won : (w : ℕ) → won_of w < 16
few_won w = omega arith

few_admitted : (w : ℕ) → admitted_of w < 16
few_admitted w = omega arith

closed_not_odd : (g n : ℕ) → not (closed g n % 2 == 1) ≡ true
closed_not_odd g n =
    not_false (closed g n % 2 == 1) (ne_eqb (closed g n % 2) 1 (λ e. omega (arith, closed_even g n, e)))

module _ (b : Breaker) where
  few_tripped : (g t a m n : ℕ) → m ≤ b.probes → n < 16 → has_few_probes b (tripped g t a m n) ≡ true
  few_tripped g t a m n few few-won =
      let small = b.few_probes in
      or_right (not (tripped g t a m n % 2 == 1)) (leb (admitted_of (tripped g t a m n)) b.probes)
      (le-leb (admitted_of (tripped g t a m n)) b.probes
      (omega (arith, few, tripped_admitted g t a m n (omega (arith, few, small.1)) few-won)))

  few_closed : (g n : ℕ) → has_few_probes b (closed g n) ≡ true
  few_closed g n = or_left (not (closed g n % 2 == 1)) (leb (admitted_of (closed g n)) b.probes) (closed_not_odd g n)

  few_opens : (at trip w : ℕ) → has_few_probes b (opens b at trip w) ≡ true
  few_opens at trip w =
      few_tripped (generation_of w) trip (min (at + open_for b trip) 137438953471) 0 0 (omega arith) (omega arith)

  few_probed : (at w : ℕ) → has_few_probes b w ≡ true → has_few_probes b (probed b at w) ≡ true
  few_probed at w h = by_bool (λ (x : ℕ). has_few_probes b x ≡ true) (waits b at w) w (probes_in b at w) (λ _. h)
      (λ _. by_bool (λ (x : ℕ). has_few_probes b x ≡ true) (has_room b w) (joins at w) (begins at w)
      (λ some. few_tripped (generation_of w) (trip_of w) at (admitted_of w + 1) (won_of w)
      (omega (
        arith,
        ltb-true (admitted_of w) b.probes (and_right (ltb 0 (admitted_of w)) (ltb (admitted_of w) b.probes) some),
      )) (few_won w))
      (λ _. few_tripped ((generation_of w + 1) % 4096) (trip_of w) at 1 0 (omega (arith, b.few_probes.0))
      (omega arith)))

  few_asked : (at w : ℕ) → has_few_probes b w ≡ true → has_few_probes b (asked b at w) ≡ true
  few_asked at w h =
      by_eq (λ (x : ℕ). has_few_probes b x ≡ true) (w % 2) 1 (probed b at w) w (λ _. few_probed at w h) (λ _. h)

  few_failed : (at w : ℕ) → has_few_probes b w ≡ true → has_few_probes b (failed b at w) ≡ true
  few_failed at w h =
      by_eq (λ (x : ℕ). has_few_probes b x ≡ true) (w % 2) 1 (failed_tripped b at w) (failed_closed b at w)
      (λ _. by_eq (λ (x : ℕ). has_few_probes b x ≡ true) (admitted_of w) 0 w (opens b at (min (trip_of w + 1) 63) w)
      (λ _. h) (λ _. few_opens at (min (trip_of w + 1) 63) w))
      (λ _. by_lt (λ (x : ℕ). has_few_probes b x ≡ true) (failures_kept b (and_failure b (count_of w))) b.failures
      (closed (generation_of w) (and_failure b (count_of w))) (opens b at 0 w)
      (λ _. few_closed (generation_of w) (and_failure b (count_of w))) (λ _. few_opens at 0 w))

  -- of a tripped breaker
  few_of : (w : ℕ) → w % 2 ≡ 1 → has_few_probes b w ≡ true → admitted_of w ≤ b.probes
  few_of w odd h = leb-true (admitted_of w) b.probes
      (or_rest (not (w % 2 == 1)) (leb (admitted_of w) b.probes) h (ap not (eq-eqb (w % 2) 1 odd)))

  few_after : (w : ℕ) → has_few_probes b w ≡ true → has_few_probes b (succeeded b w) ≡ true
  few_after w h =
      by_eq (λ (x : ℕ). has_few_probes b x ≡ true) (w % 2) 1 (succeeded_tripped b w)
      (closed (generation_of w) (and_success b (count_of w)))
      (λ odd. by_eq (λ (x : ℕ). has_few_probes b x ≡ true) (admitted_of w) 0 w (won b w) (λ _. h)
      (λ _. by_lt (λ (x : ℕ). has_few_probes b x ≡ true) (won_of w + 1) b.probes
      (tripped (generation_of w) (trip_of w) (at_of w) (admitted_of w) (won_of w + 1)) (closed (generation_of w) 0)
      (λ more. few_tripped (generation_of w) (trip_of w) (at_of w) (admitted_of w) (won_of w + 1) (few_of w odd h)
      (omega (arith, more, b.few_probes.1)))
      (λ _. few_closed (generation_of w) 0)))
      (λ _. few_closed (generation_of w) (and_success b (count_of w)))

  few_next : (c : Call) (w : ℕ) → has_few_probes b w ≡ true → has_few_probes b (breaker_next b c w) ≡ true
  few_next (Admit now random before) w h = few_asked (since_start b now) w h
  few_next (Draw now cost slots) w h = few_asked (since_start b now) w h
  few_next (Failed now generation) w h = by_eq (λ (x : ℕ). has_few_probes b x ≡ true) generation (stamp_of w)
      (failed b (since_start b now) w) w (λ _. few_failed (since_start b now) w h) (λ _. h)
  few_next (Succeeded now generation worth) w h = by_eq (λ (x : ℕ). has_few_probes b x ≡ true) generation (stamp_of w)
      (succeeded b w) w (λ _. few_after w h) (λ _. h)
  few_next (Ended slots) w h = h
  few_next (Returned cost slots) w h = h
  few_next (Closed now) w h = h
  few_next (OpenedByHand now until) w h =
      few_tripped (next_generation w) 0 (since_start b until) 0 0 (omega arith) (omega arith)
  few_next (ClosedByHand now) w h = few_closed (next_generation w) 0

  pub kept_few : IsKeptBy (breaker_next b) 0 (has_few_probes b)
  kept_few = (refl, few_next)

  -- what an open breaker keeps, where it is left as it is; z is whether it may be left otherwise
  same_kept : (z : Bool) (w : ℕ) → cond ((w % 2 == 1) && (admitted_of w == 0)) ((w == w) || z) true ≡ true
  same_kept z w =
      some_demand ((w % 2 == 1) && (admitted_of w == 0)) ((w == w) || z) (λ _. or_left (w == w) z (eq-eqb w w refl))

  -- one that asks leaves an open breaker only where its time is over
  asked_kept : (at w : ℕ)
      → cond ((w % 2 == 1) && (admitted_of w == 0)) ((asked b at w == w) || leb (at_of w) at) true ≡ true
  asked_kept at w =
      let z : Bool = leb (at_of w) at in
      by_eq (λ (x : ℕ). cond ((w % 2 == 1) && (admitted_of w == 0)) ((x == w) || z) true ≡ true) (w % 2) 1
      (probed b at w) w
      (λ _. by_bool (λ (x : ℕ). cond ((w % 2 == 1) && (admitted_of w == 0)) ((x == w) || z) true ≡ true)
      (waits b at w) w (probes_in b at w)
      (λ _. same_kept z w)
      (λ over. some_demand ((w % 2 == 1) && (admitted_of w == 0)) ((probes_in b at w == w) || z)
      (λ stands. or_right (probes_in b at w == w) z (le-leb (at_of w) at (ltb-false at (at_of w)
      (and_false (admitted_of w == 0) (ltb at (at_of w)) (or_false (is_open at w) (is_out b at w) over)
      (and_right (w % 2 == 1) (admitted_of w == 0) stands)))))))
      (λ _. same_kept z w)

  failed_kept : (at w : ℕ) → cond ((w % 2 == 1) && (admitted_of w == 0)) ((failed b at w == w) || false) true ≡ true
  failed_kept at w = by_eq (λ (x : ℕ). cond ((w % 2 == 1) && (admitted_of w == 0)) ((x == w) || false) true ≡ true)
      (w % 2) 1 (failed_tripped b at w) (failed_closed b at w)
      (λ _. by_eq (λ (x : ℕ). cond ((w % 2 == 1) && (admitted_of w == 0)) ((x == w) || false) true ≡ true)
      (admitted_of w) 0 w (opens b at (min (trip_of w + 1) 63) w)
      (λ _. same_kept false w)
      (λ some. no_demand ((w % 2 == 1) && (admitted_of w == 0)) ((opens b at (min (trip_of w + 1) 63) w == w) || false)
      (and_no_right (w % 2 == 1) (admitted_of w == 0) (ne_eqb (admitted_of w) 0 some))))
      (λ even. no_demand ((w % 2 == 1) && (admitted_of w == 0)) ((failed_closed b at w == w) || false)
      (and_no_left (w % 2 == 1) (admitted_of w == 0) (ne_eqb (w % 2) 1 even)))

  succeeded_kept : (w : ℕ) → cond ((w % 2 == 1) && (admitted_of w == 0)) ((succeeded b w == w) || false) true ≡ true
  succeeded_kept w = by_eq (λ (x : ℕ). cond ((w % 2 == 1) && (admitted_of w == 0)) ((x == w) || false) true ≡ true)
      (w % 2) 1 (succeeded_tripped b w) (closed (generation_of w) (and_success b (count_of w)))
      (λ _. by_eq (λ (x : ℕ). cond ((w % 2 == 1) && (admitted_of w == 0)) ((x == w) || false) true ≡ true)
      (admitted_of w) 0 w (won b w)
      (λ _. same_kept false w)
      (λ some. no_demand ((w % 2 == 1) && (admitted_of w == 0)) ((won b w == w) || false)
      (and_no_right (w % 2 == 1) (admitted_of w == 0) (ne_eqb (admitted_of w) 0 some))))
      (λ even. no_demand ((w % 2 == 1) && (admitted_of w == 0))
      ((closed (generation_of w) (and_success b (count_of w)) == w) || false)
      (and_no_left (w % 2 == 1) (admitted_of w == 0) (ne_eqb (w % 2) 1 even)))

  open_kept : (c : Call) (w : ℕ) → is_kept_open b c w (breaker_next b c w) ≡ true
  open_kept (Admit now random before) w = asked_kept (since_start b now) w
  open_kept (Draw now cost slots) w = asked_kept (since_start b now) w
  open_kept (Failed now generation) w =
      by_eq (λ (x : ℕ). cond ((w % 2 == 1) && (admitted_of w == 0)) ((x == w) || false) true ≡ true) generation
      (stamp_of w) (failed b (since_start b now) w) w
      (λ _. failed_kept (since_start b now) w) (λ _. same_kept false w)
  open_kept (Succeeded now generation worth) w =
      by_eq (λ (x : ℕ). cond ((w % 2 == 1) && (admitted_of w == 0)) ((x == w) || false) true ≡ true) generation
      (stamp_of w) (succeeded b w) w
      (λ _. succeeded_kept w) (λ _. same_kept false w)
  open_kept (Ended slots) w = same_kept false w
  open_kept (Returned cost slots) w = same_kept false w
  open_kept (Closed now) w = same_kept false w
  open_kept (OpenedByHand now until) w =
      some_demand ((w % 2 == 1) && (admitted_of w == 0)) ((opened_by_hand (since_start b until) w == w) || true)
      (λ _. or_right (opened_by_hand (since_start b until) w == w) true refl)
  open_kept (ClosedByHand now) w =
      some_demand ((w % 2 == 1) && (admitted_of w == 0)) ((closed_by_hand w == w) || true)
      (λ _. or_right (closed_by_hand w == w) true refl)

  late_same : (c : Call) (w : ℕ) → is_of_now c w (breaker_next b c w) ≡ true
  late_same (Admit now random before) w = refl
  late_same (Draw now cost slots) w = refl
  late_same (Failed now generation) w = by_eq (λ (x : ℕ). ((x == w) || (generation == stamp_of w)) ≡ true) generation
      (stamp_of w) (failed b (since_start b now) w) w
      (λ e. or_right _ (generation == stamp_of w) (eq-eqb generation (stamp_of w) e))
      (λ _. or_left (w == w) _ (eq-eqb w w refl))
  late_same (Succeeded now generation worth) w =
      by_eq (λ (x : ℕ). ((x == w) || (generation == stamp_of w)) ≡ true) generation (stamp_of w) (succeeded b w) w
      (λ e. or_right _ (generation == stamp_of w) (eq-eqb generation (stamp_of w) e))
      (λ _. or_left (w == w) _ (eq-eqb w w refl))
  late_same (Ended slots) w = refl
  late_same (Returned cost slots) w = refl
  late_same (Closed now) w = refl
  late_same (OpenedByHand now until) w = refl
  late_same (ClosedByHand now) w = refl

  -- a breaker that is left as it is was not tripped
  as_it_was : (z : Bool) (w : ℕ) → ((w % 2 == 1) || (not (w % 2 == 1) || z)) ≡ true
  as_it_was z w = either_bool z (w % 2 == 1)

  asked_trips : (at w : ℕ) → ((w % 2 == 1) || (not (asked b at w % 2 == 1) || false)) ≡ true
  asked_trips at w = by_eq (λ (x : ℕ). ((w % 2 == 1) || (not (x % 2 == 1) || false)) ≡ true) (w % 2) 1 (probed b at w) w
      (λ odd. or_left (w % 2 == 1) _ (eq-eqb (w % 2) 1 odd)) (λ _. as_it_was false w)

  trips : (c : Call) (w : ℕ) → trips_late b c w (breaker_next b c w) ≡ true
  trips (Admit now random before) w = asked_trips (since_start b now) w
  trips (Draw now cost slots) w = asked_trips (since_start b now) w
  trips (Failed now generation) w =
      let kept : ℕ = and_failure b (count_of w) in
      let z : Bool = leb b.failures (failures_kept b kept) in
      by_eq (λ (x : ℕ). ((w % 2 == 1) || (not (x % 2 == 1) || z)) ≡ true) generation (stamp_of w)
      (failed b (since_start b now) w) w
      (λ _. by_eq (λ (x : ℕ). ((w % 2 == 1) || (not (x % 2 == 1) || z)) ≡ true) (w % 2) 1
      (failed_tripped b (since_start b now) w) (failed_closed b (since_start b now) w)
      (λ odd. or_left (w % 2 == 1) _ (eq-eqb (w % 2) 1 odd))
      (λ _. by_lt (λ (x : ℕ). ((w % 2 == 1) || (not (x % 2 == 1) || z)) ≡ true) (failures_kept b kept) b.failures
      (closed (generation_of w) kept) (opens b (since_start b now) 0 w)
      (λ _. or_right (w % 2 == 1) _ (or_left _ z (closed_not_odd (generation_of w) kept)))
      (λ last. or_right (w % 2 == 1) _ (or_right _ z (le-leb b.failures (failures_kept b kept) last)))))
      (λ _. as_it_was z w)
  trips (Succeeded now generation worth) w =
      by_eq (λ (x : ℕ). ((w % 2 == 1) || (not (x % 2 == 1) || false)) ≡ true) generation (stamp_of w) (succeeded b w) w
      (λ _. by_eq (λ (x : ℕ). ((w % 2 == 1) || (not (x % 2 == 1) || false)) ≡ true) (w % 2) 1 (succeeded_tripped b w)
      (closed (generation_of w) (and_success b (count_of w)))
      (λ odd. or_left (w % 2 == 1) _ (eq-eqb (w % 2) 1 odd))
      (λ _. or_right (w % 2 == 1) _
      (or_left _ false (closed_not_odd (generation_of w) (and_success b (count_of w))))))
      (λ _. as_it_was false w)
  trips (Ended slots) w = as_it_was false w
  trips (Returned cost slots) w = as_it_was false w
  trips (Closed now) w = as_it_was false w
  trips (OpenedByHand now until) w =
      or_right (w % 2 == 1) _ (or_right (not (opened_by_hand (since_start b until) w % 2 == 1)) true refl)
  trips (ClosedByHand now) w =
      or_right (w % 2 == 1) _ (or_left _ false (closed_not_odd (next_generation w) 0))

pub probes_are_few : ProbesAreFew
probes_are_few b s kept = (what_is_kept_holds (breaker_next b) 0 s kept (has_few_probes b) (kept_few b)).0

pub open_is_kept : OpenIsKept
open_is_kept b = each_is (breaker_next b) 0 (has_few_probes b) (is_kept_open b) (kept_few b) (λ c w _. open_kept b c w)

pub late_results_change_nothing : LateResultsChangeNothing
late_results_change_nothing b =
    each_is (breaker_next b) 0 (has_few_probes b) is_of_now (kept_few b) (λ c w _. late_same b c w)

pub opens_after_failures : OpensAfterFailures
opens_after_failures b =
    each_is (breaker_next b) 0 (has_few_probes b) (trips_late b) (kept_few b) (λ c w _. trips b c w)
