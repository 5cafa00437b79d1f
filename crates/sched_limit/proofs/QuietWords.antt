-- Quiet words of each machine, and a look at one.
use Rattle.std.proofs.Common.{◌≡◌, ℕ, ◌*◌, ◌^◌, ◌%◌, ◌==◌, Bool, true, false, cond, refl, ap, ◌∙◌, arith, ne_eqb}
use Rattle.std.specs.Prelude.{None}
use Rattle.std.proofs.lemmas.Bool.{eqb-true}
use Rattle.std.proofs.Math.Nat.{zero-mod}
use Rattle.sched_limit_word.proofs.Looks.{looks_are_calls}
use Rattle.sched_limit_word.specs.declared.call.Call.TheVariants.{Admit, Succeeded, Ended}
use Rattle.sched_limit.specs.Bucket.{bucket_next, bucket_refusal}
use Rattle.sched_limit.specs.Breaker.{breaker_next, breaker_refusal, since_start, probed, succeeded, succeeded_tripped}
use Rattle.sched_limit.specs.Breaker.{refused_tripped, and_success}
use Rattle.sched_limit.specs.Word.{generation_of, count_of, closed, stamp_of}
use Rattle.sched_limit.specs.Quiet.{IsQuiet, QuietLooksAreCalls, is_full, is_calm}
use Rattle.sched_limit.specs.declared.bucket.Bucket.{Bucket}
use Rattle.sched_limit.specs.declared.breaker.Breaker.{Breaker}
use Rattle.sched_limit.proofs.Cases.{by_eq}

pub quiet_looks_are_calls : QuietLooksAreCalls
quiet_looks_are_calls next refusal word v q = record {
  admits = λ now random before. looks_are_calls next (Admit now random before) word v (q.admits now random before);
  succeeds = λ now generation worth.
      looks_are_calls next (Succeeded now generation worth) word v (q.succeeds now generation worth);
  ends = λ slots. looks_are_calls next (Ended slots) word v (q.ends slots);
}

pub full_is_quiet : (b : Bucket) (w : ℕ) → is_full b w ≡ true → IsQuiet (bucket_next b) (bucket_refusal b) w
full_is_quiet b w h = record {
  granted = λ now random before. refl;
  admits = λ now random before. refl;
  succeeds = λ now generation worth. omega (arith, eqb-true w b.capacity h);
  ends = λ slots. refl;
}

-- where no failure is kept, none is after a success
clear_kept : (b : Breaker) (kept : ℕ) → kept ≡ 0 → and_success b kept ≡ 0
clear_kept b kept e =
    by_eq (λ (x : ℕ). x ≡ 0) b.results 0 0 (2 * kept % 2 ^ b.results) (λ _. refl)
    (λ _. ap (λ (x : ℕ). 2 * x % 2 ^ b.results) e ∙ zero-mod (2 ^ b.results))

module _ (b : Breaker) (w : ℕ) (h : is_calm b w ≡ true) where
  untripped : (w % 2 == 1) ≡ false
  untripped =
      let e : w % 4503599627370496 ≡ 0 = eqb-true (w % 4503599627370496) 0 h in
      ne_eqb (w % 2) 1 (λ odd. omega (arith, e, odd))

  cleared : succeeded b w ≡ w
  cleared =
      let e : w % 4503599627370496 ≡ 0 = eqb-true (w % 4503599627370496) 0 h in
      ap (λ (c : Bool). cond c (succeeded_tripped b w) (closed (generation_of w) (and_success b (count_of w))))
      untripped
      ∙ ap (closed (generation_of w)) (clear_kept b (count_of w) (omega (arith, e))) ∙ omega (arith, e)

  pub calm_is_quiet : IsQuiet (breaker_next b) (breaker_refusal b) w
  calm_is_quiet = record {
    granted = λ now random before.
        ap (λ (c : Bool). cond c (refused_tripped b (since_start b now) w) None) untripped;
    admits = λ now random before. ap (λ (c : Bool). cond c (probed b (since_start b now) w) w) untripped;
    succeeds = λ now generation worth.
        by_eq (λ (x : ℕ). x ≡ w) generation (stamp_of w) (succeeded b w) w (λ _. cleared) (λ _. refl);
    ends = λ slots. refl;
  }
