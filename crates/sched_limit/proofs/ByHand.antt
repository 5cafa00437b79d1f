-- What a breaker does that somebody opened or closed by hand.
use Rattle.std.proofs.Common.{◌≡◌, ◌≢◌, ℕ, ◌+◌, ◌%◌, ◌<◌, ◌≤◌, min, Bool, true, not, cond, ltb, ◌==◌}
use Rattle.std.proofs.Common.{ap, ◌∙◌, arith, eq-eqb, ne_eqb, lt-ltb, le-ltb}
use Rattle.std.specs.Prelude.{Some, None}
use Rattle.sched_limit.specs.Breaker.{since_start, is_open, is_out, probes_in, probed, asked, failed, succeeded}
use Rattle.sched_limit.specs.Breaker.{refused, refused_tripped, next_generation, opened_by_hand, closed_by_hand}
use Rattle.sched_limit.specs.ByHand.{BeginsAnew, OpensByHand, ClosesByHand}
use Rattle.sched_limit.specs.Word.{generation_of, admitted_of, at_of, closed, tripped, stamp_of}
use Rattle.sched_limit.specs.declared.breaker.Breaker.{Breaker}
use Rattle.sched_limit.specs.declared.refusal.Refusal.TheVariants.{Open, Probing}
use Rattle.sched_limit.proofs.Breakers.{tripped_odd, tripped_admitted, closed_even}
use Rattle.sched_limit.proofs.Cases.{and_both, and_no_left, and_no_right, or_left}

tripped_at : (g t a : ℕ) → a < 137438953472 → t < 64 → at_of (tripped g t a 0 0) ≡ a
tripped_at g t a small few = omega (arith, small, few)

tripped_generation : (g t a : ℕ) → a < 137438953472 → t < 64 → generation_of (tripped g t a 0 0) ≡ g
tripped_generation g t a small few = omega (arith, small, few)

closed_generation : (g : ℕ) → generation_of (closed g 0) ≡ g
closed_generation g = omega arith

-- the next generation is another, whether its word is tripped or not
another : (w v : ℕ) → generation_of v ≡ next_generation w → stamp_of w ≢ stamp_of v
another w v e = λ same. omega (arith, e, same)

module _ (b : Breaker) where
  since_small : (now : ℕ) → since_start b now < 137438953472
  since_small now = omega arith

  begins_anew : (w v : ℕ) → generation_of v ≡ next_generation w → BeginsAnew b w v
  begins_anew w v e = record {
    generation = e;
    failures = λ now.
        ap (λ (c : Bool). cond c (failed b (since_start b now) v) v) (ne_eqb (stamp_of w) (stamp_of v) (another w v e));
    successes = λ now worth.
        ap (λ (c : Bool). cond c (succeeded b v) v) (ne_eqb (stamp_of w) (stamp_of v) (another w v e));
  }

  module _ (at u w : ℕ) (odd : w % 2 ≡ 1) (none : admitted_of w ≡ 0) (when : at_of w ≡ u) where
    still : at < u → is_open at w ≡ true
    still early = and_both (admitted_of w == 0) (ltb at (at_of w)) (eq-eqb (admitted_of w) 0 none)
        (lt-ltb at (at_of w) (omega (arith, early, when)))

    refuses : at < u → refused b at w ≡ Some (Open (min (b.start + u) 4611686018427387903))
    refuses early =
        ap (λ (c : Bool). cond c (refused_tripped b at w) None) (eq-eqb (w % 2) 1 odd)
        ∙ ap (λ (c : Bool).
        cond c (Some (Open (min (b.start + at_of w) 4611686018427387903))) (cond (is_out b at w) (Some Probing) None))
        (still early)
        ∙ ap (λ (x : ℕ). Some (Open (min (b.start + x) 4611686018427387903))) when

    stays : at < u → asked b at w ≡ w
    stays early =
        ap (λ (c : Bool). cond c (probed b at w) w) (eq-eqb (w % 2) 1 odd)
        ∙ ap (λ (c : Bool). cond c w (probes_in b at w)) (or_left (is_open at w) (is_out b at w) (still early))

    grants : u ≤ at → refused b at w ≡ None
    grants late =
        ap (λ (c : Bool). cond c (refused_tripped b at w) None) (eq-eqb (w % 2) 1 odd)
        ∙ ap (λ (c : Bool).
        cond c (Some (Open (min (b.start + at_of w) 4611686018427387903))) (cond (is_out b at w) (Some Probing) None))
        (and_no_right (admitted_of w == 0) (ltb at (at_of w)) (le-ltb at (at_of w) (omega (arith, late, when))))
        ∙ ap (λ (c : Bool). cond c (Some Probing) None)
        (and_no_left (not (ltb (admitted_of w) b.probes)) (ltb at (at_of w + b.deadline))
        (ap not (lt-ltb (admitted_of w) b.probes (omega (arith, none, b.few_probes.0)))))

pub opens_by_hand : OpensByHand
opens_by_hand b now until word =
    let u : ℕ = since_start b until in
    let g : ℕ = next_generation word in
    let v : ℕ = opened_by_hand u word in
    let small : u < 137438953472 = since_small b until in
    let odd : v % 2 ≡ 1 = tripped_odd g 0 u 0 0 in
    let none : admitted_of v ≡ 0 = tripped_admitted g 0 u 0 0 (omega arith) (omega arith) in
    let when : at_of v ≡ u = tripped_at g 0 u small (omega arith) in (
      begins_anew b word v (tripped_generation g 0 u small (omega arith)),
      record {
        tripped = odd;
        admits = λ at random before early.
            (refuses b (since_start b at) u v odd none when early, stays b (since_start b at) u v odd none when early);
        draws = λ at cost slots early.
            (refuses b (since_start b at) u v odd none when early, stays b (since_start b at) u v odd none when early);
        over = λ at random before late. grants b (since_start b at) u v odd none when late;
      },
    )

pub closes_by_hand : ClosesByHand
closes_by_hand b now word =
    let g : ℕ = next_generation word in (
      begins_anew b word (closed_by_hand word) (closed_generation g),
      record {
        closed = closed_even g 0;
        kept = omega arith;
      },
    )
