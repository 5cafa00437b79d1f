-- A closed breaker keeps the last results of its generation, and opens by them.
use Rattle.std.proofs.Common.{◌≡◌, ◌≢◌, ℕ, zero, suc, ◌+◌, ◌*◌, ◌%◌, ◌^◌, ◌<◌, ◌≤◌, min, Bool, true, false, cond}
use Rattle.std.proofs.Common.{◌==◌, ◌&&◌, leb, List, [], ◌∷◌, take, refl, sym, ap, ◌∙◌, subst, arith, le-leb, eq-eqb}
use Rattle.std.proofs.Common.{ne_eqb}
use Rattle.std.proofs.lemmas.Bool.{lt-leb}
use Rattle.std.proofs.Math.Nat.{zero-mod, mod-lt}
use Rattle.std.proofs.Math.Pow.{pow_pos, pow_mono}
use Rattle.std.specs.Prelude.{count_ones}
use mathlib.Core.Logic.{dite}
use native.Mathlib.Decide.{ℕ_discrete}
use Rattle.sched_limit_word.specs.declared.call.Call.{Call}
use Rattle.sched_limit_word.specs.declared.call.Call.TheVariants.{Admit, Draw, Failed, Succeeded, Ended, Returned}
use Rattle.sched_limit_word.specs.declared.call.Call.TheVariants.{Closed, OpenedByHand, ClosedByHand}
use Rattle.sched_limit.specs.Breaker.{since_start, begins, joins, opens, waits, has_room, probes_in, probed, asked}
use Rattle.sched_limit.specs.Breaker.{and_failure, and_success, failures_kept, failed_closed, failed_tripped, failed}
use Rattle.sched_limit.specs.Breaker.{won, succeeded_tripped, succeeded, breaker_next, next_generation, open_for}
use Rattle.sched_limit.specs.Results.{failures_among, failures_in_row, failures_of, bits, kept_of, after, heard}
use Rattle.sched_limit.specs.Results.{results_in, opens_at, KeepsTheLast, OpensExactly, AllAreInRow}
use Rattle.sched_limit.specs.States.{tripped_seen, ClosedIsSeen}
use Rattle.sched_limit.specs.declared.seen.Seen.TheVariants as seen
use Rattle.sched_limit.specs.Word.{generation_of, count_of, won_of, admitted_of, at_of, trip_of, closed, tripped}
use Rattle.sched_limit.specs.Word.{stamp_of}
use Rattle.sched_limit.specs.declared.breaker.Breaker.{Breaker}
use Rattle.sched_limit.proofs.Breakers.{tripped_odd, closed_even}
use Rattle.sched_limit.proofs.Cases.{by_lt, by_eq, by_bool}
use Rattle.sched_limit.proofs.ResultBits.{shifted, ones_bits, bits_mod, all_row}

count_closed : (g n : ℕ) → n < 2251799813685248 → count_of (closed g n) ≡ n
count_closed g n small = omega (arith, small)

even_of : (w : ℕ) → w % 2 ≢ 1 → w % 2 ≡ 0
even_of w ne = omega (arith, ne)

tripped_not_even : (g t a m n : ℕ) → tripped g t a m n % 2 ≡ 0 → ⊥
tripped_not_even g t a m n even = omega (arith, tripped_odd g t a m n, even)

-- two tests of the same are decided at once
both_bool : {X Y : Type 0} (P : X → Y → Type 0) (c : Bool) (x y : X) (u v : Y) → (c ≡ true → P x u)
    → (c ≡ false → P y v) → P (cond c x y) (cond c u v)
both_bool P true x y u v hit miss = hit refl
both_bool P false x y u v hit miss = miss refl

at_and : (c z : Bool) (x w : ℕ) → (x % 2 == 1) ≡ z → (w % 2 == 1) ≡ false → (cond c x w % 2 == 1) ≡ (c && z)
at_and true z x w hit miss = hit
at_and false z x w hit miss = miss

module _ (b : Breaker) where
  at_results : (P : Bool → Type 0) → P true → (b.results ≢ 0 → P false) → P (b.results == 0)
  at_results P row last = dite (ℕ_discrete b.results 0)
      (λ e. subst P (sym (eq-eqb b.results 0 e)) row)
      (λ ne. subst P (sym (ne_eqb b.results 0 ne)) (last ne))

  with_failure : (rs : List Bool) (k : ℕ) → k ≡ kept_of b rs → and_failure b k ≡ kept_of b (true ∷ rs)
  with_failure rs k = at_results (λ (z : Bool).
      k ≡ cond z (failures_in_row rs) (bits (take b.results rs))
      → cond z (k + 1) ((2 * k + 1) % 2 ^ b.results)
      ≡ cond z (failures_in_row rs + 1) (bits (take b.results (true ∷ rs))))
      (λ e. ap (λ (x : ℕ). x + 1) e)
      (λ some e. ap (λ (x : ℕ). (2 * x + 1) % 2 ^ b.results) e ∙ shifted b.results true rs some)

  with_success : (rs : List Bool) (k : ℕ) → k ≡ kept_of b rs → and_success b k ≡ kept_of b (false ∷ rs)
  with_success rs k = at_results (λ (z : Bool).
      k ≡ cond z (failures_in_row rs) (bits (take b.results rs))
      → cond z 0 (2 * k % 2 ^ b.results) ≡ cond z 0 (bits (take b.results (false ∷ rs))))
      (λ e. refl)
      (λ some e. ap (λ (x : ℕ). x % 2 ^ b.results) (omega (arith, e)) ∙ shifted b.results false rs some)

  counts : (rs : List Bool) → failures_kept b (kept_of b rs) ≡ failures_of b rs
  counts rs = at_results (λ (z : Bool).
      cond z (cond z (failures_in_row rs) (bits (take b.results rs)))
      (count_ones (cond z (failures_in_row rs) (bits (take b.results rs))))
      ≡ cond z (failures_in_row rs) (failures_among (take b.results rs)))
      refl (λ some. ones_bits (take b.results rs))

  none_kept : kept_of b [] ≡ 0
  none_kept = at_results (λ (z : Bool). cond z 0 (bits (take b.results [])) ≡ 0) refl
      (λ some. bits_mod b.results [] ∙ zero-mod (2 ^ b.results))

  window_small : (n : ℕ) → n % 2 ^ b.results < 2251799813685248
  window_small n =
      let below : n % 2 ^ b.results < 2 ^ b.results = mod-lt n (pow_pos b.results) in
      let few : 2 ^ b.results ≤ 2 ^ 32 = pow_mono b.few_failures.1 in
      omega (arith, below, few)

  failure_small : (k : ℕ) → failures_kept b (and_failure b k) < b.failures → and_failure b k < 2251799813685248
  failure_small k = at_results (λ (z : Bool).
      cond z (cond z (k + 1) ((2 * k + 1) % 2 ^ b.results)) (count_ones (cond z (k + 1) ((2 * k + 1) % 2 ^ b.results)))
      < b.failures → cond z (k + 1) ((2 * k + 1) % 2 ^ b.results) < 2251799813685248)
      (λ less. omega (arith, less, b.few_failures.0))
      (λ some less. window_small (2 * k + 1))

  success_small : (k : ℕ) → and_success b k < 2251799813685248
  success_small k = at_results (λ (z : Bool). cond z 0 (2 * k % 2 ^ b.results) < 2251799813685248)
      (omega arith) (λ some. window_small (2 * k))

  -- a word that is tripped, or has kept nothing
  abbrev IsBlank : ℕ → Type 0
  IsBlank x = x % 2 ≡ 0 → count_of x ≡ 0

  blank_odd : (x : ℕ) → x % 2 ≡ 1 → IsBlank x
  blank_odd x odd = λ even. omega (arith, odd, even)

  blank_tripped : (g t a m n : ℕ) → IsBlank (tripped g t a m n)
  blank_tripped g t a m n = blank_odd (tripped g t a m n) (tripped_odd g t a m n)

  blank_closed : (g : ℕ) → IsBlank (closed g 0)
  blank_closed g = λ even. count_closed g 0 (omega arith)

  blank_opens : (at trip w : ℕ) → IsBlank (opens b at trip w)
  blank_opens at trip w = blank_tripped (generation_of w) trip (min (at + open_for b trip) 137438953471) 0 0

  -- what a tripped breaker begins has kept nothing
  blank_asked : (at w : ℕ) → w % 2 ≡ 1 → IsBlank (asked b at w)
  blank_asked at w odd = by_eq IsBlank (w % 2) 1 (probed b at w) w
      (λ _. by_bool IsBlank (waits b at w) w (probes_in b at w) (λ _. blank_odd w odd)
      (λ _. by_bool IsBlank (has_room b w) (joins at w) (begins at w)
      (λ _. blank_tripped (generation_of w) (trip_of w) at (admitted_of w + 1) (won_of w))
      (λ _. blank_tripped (next_generation w) (trip_of w) at 1 0)))
      (λ _. blank_odd w odd)

  blank_failed : (at w : ℕ) → w % 2 ≡ 1 → IsBlank (failed b at w)
  blank_failed at w odd = by_eq IsBlank (w % 2) 1 (failed_tripped b at w) (failed_closed b at w)
      (λ _. by_eq IsBlank (admitted_of w) 0 w (opens b at (min (trip_of w + 1) 63) w) (λ _. blank_odd w odd)
      (λ _. blank_opens at (min (trip_of w + 1) 63) w))
      (λ even. absurd (even odd))

  blank_succeeded : (w : ℕ) → w % 2 ≡ 1 → IsBlank (succeeded b w)
  blank_succeeded w odd = by_eq IsBlank (w % 2) 1 (succeeded_tripped b w)
      (closed (generation_of w) (and_success b (count_of w)))
      (λ _. by_eq IsBlank (admitted_of w) 0 w (won b w) (λ _. blank_odd w odd)
      (λ _. by_lt IsBlank (won_of w + 1) b.probes
      (tripped (generation_of w) (trip_of w) (at_of w) (admitted_of w) (won_of w + 1)) (closed (generation_of w) 0)
      (λ _. blank_tripped (generation_of w) (trip_of w) (at_of w) (admitted_of w) (won_of w + 1))
      (λ _. blank_closed (generation_of w))))
      (λ even. absurd (even odd))

  blank_next : (c : Call) (w : ℕ) → w % 2 ≡ 1 → IsBlank (breaker_next b c w)
  blank_next (Admit now random before) w odd = blank_asked (since_start b now) w odd
  blank_next (Draw now cost slots) w odd = blank_asked (since_start b now) w odd
  blank_next (Failed now generation) w odd = by_eq IsBlank generation (stamp_of w) (failed b (since_start b now) w) w
      (λ _. blank_failed (since_start b now) w odd) (λ _. blank_odd w odd)
  blank_next (Succeeded now generation worth) w odd = by_eq IsBlank generation (stamp_of w) (succeeded b w) w
      (λ _. blank_succeeded w odd) (λ _. blank_odd w odd)
  blank_next (Ended slots) w odd = blank_odd w odd
  blank_next (Returned cost slots) w odd = blank_odd w odd
  blank_next (Closed now) w odd = blank_odd w odd
  blank_next (OpenedByHand now until) w odd = blank_tripped (next_generation w) 0 (since_start b until) 0 0
  blank_next (ClosedByHand now) w odd = blank_closed (next_generation w)

  -- a closed breaker's word keeps these results, or it is tripped
  abbrev Keeps : ℕ → List Bool → Type 0
  Keeps x rs = x % 2 ≡ 0 → count_of x ≡ kept_of b rs

  module _ (w : ℕ) (rs : List Bool) (even : w % 2 ≡ 0) (keeps : count_of w ≡ kept_of b rs) where
    not_odd : (w % 2 == 1) ≡ false
    not_odd = ne_eqb (w % 2) 1 (λ odd. omega (arith, even, odd))

    asked_same : (at : ℕ) → asked b at w ≡ w
    asked_same at = ap (λ (c : Bool). cond c (probed b at w) w) not_odd

    failed_so : (at : ℕ) → failed b at w ≡ failed_closed b at w
    failed_so at = ap (λ (c : Bool). cond c (failed_tripped b at w) (failed_closed b at w)) not_odd

    kept_failure : (at : ℕ) → Keeps (failed_closed b at w) (true ∷ rs)
    kept_failure at =
        let kept : ℕ = and_failure b (count_of w) in
        by_lt (λ (x : ℕ). Keeps x (true ∷ rs)) (failures_kept b kept) b.failures (closed (generation_of w) kept)
        (opens b at 0 w)
        (λ less _. count_closed (generation_of w) kept (failure_small (count_of w) less)
        ∙ with_failure rs (count_of w) keeps)
        (λ _ off. absurd (tripped_not_even (generation_of w) 0 (min (at + open_for b 0) 137438953471) 0 0 off))

    kept_success : Keeps (succeeded b w) (false ∷ rs)
    kept_success = subst (λ (c : Bool).
        Keeps (cond c (succeeded_tripped b w) (closed (generation_of w) (and_success b (count_of w)))) (false ∷ rs))
        (sym not_odd)
        (λ _. count_closed (generation_of w) (and_success b (count_of w)) (success_small (count_of w))
        ∙ with_success rs (count_of w) keeps)

    kept_next : (c : Call) → Keeps (breaker_next b c w) (heard c w rs)
    kept_next (Admit now random before) =
        subst (λ (x : ℕ). Keeps x rs) (sym (asked_same (since_start b now))) (λ _. keeps)
    kept_next (Draw now cost slots) = subst (λ (x : ℕ). Keeps x rs) (sym (asked_same (since_start b now))) (λ _. keeps)
    kept_next (Failed now generation) = both_bool Keeps (generation == stamp_of w) (failed b (since_start b now) w) w
        (true ∷ rs) rs
        (λ _. subst (λ (x : ℕ). Keeps x (true ∷ rs)) (sym (failed_so (since_start b now)))
        (kept_failure (since_start b now)))
        (λ _ _. keeps)
    kept_next (Succeeded now generation worth) = both_bool Keeps (generation == stamp_of w) (succeeded b w) w
        (false ∷ rs) rs (λ _. kept_success) (λ _ _. keeps)
    kept_next (Ended slots) = λ _. keeps
    kept_next (Returned cost slots) = λ _. keeps
    kept_next (Closed now) = λ _. keeps
    kept_next (OpenedByHand now until) =
        λ off. absurd (tripped_not_even (next_generation w) 0 (since_start b until) 0 0 off)
    kept_next (ClosedByHand now) = λ _. count_closed (next_generation w) 0 (omega arith) ∙ sym none_kept

    -- the failure that makes so many opens it
    failure_opens : (at : ℕ) → (failed_closed b at w % 2 == 1) ≡ leb b.failures (failures_of b (true ∷ rs))
    failure_opens at =
        let kept : ℕ = and_failure b (count_of w) in
        let many : failures_kept b kept ≡ failures_of b (true ∷ rs) =
        ap (failures_kept b) (with_failure rs (count_of w) keeps) ∙ counts (true ∷ rs) in
        by_lt (λ (x : ℕ). (x % 2 == 1) ≡ leb b.failures (failures_of b (true ∷ rs))) (failures_kept b kept) b.failures
        (closed (generation_of w) kept) (opens b at 0 w)
        (λ less. ne_eqb (closed (generation_of w) kept % 2) 1
        (λ odd. omega (arith, closed_even (generation_of w) kept, odd))
        ∙ sym (lt-leb b.failures (failures_of b (true ∷ rs)) (omega (arith, less, many))))
        (λ last. eq-eqb (opens b at 0 w % 2) 1
        (tripped_odd (generation_of w) 0 (min (at + open_for b 0) 137438953471) 0 0)
        ∙ sym (le-leb b.failures (failures_of b (true ∷ rs)) (omega (arith, last, many))))

    succeeded_even : (succeeded b w % 2 == 1) ≡ false
    succeeded_even = subst (λ (c : Bool).
        (cond c (succeeded_tripped b w) (closed (generation_of w) (and_success b (count_of w))) % 2 == 1) ≡ false)
        (sym not_odd)
        (ne_eqb (closed (generation_of w) (and_success b (count_of w)) % 2) 1
        (λ odd. omega (arith, closed_even (generation_of w) (and_success b (count_of w)), odd)))

    opens_so : (c : Call) → (breaker_next b c w % 2 == 1) ≡ opens_at b c w rs
    opens_so (Admit now random before) =
        ap (λ (x : ℕ). x % 2 == 1) (asked_same (since_start b now)) ∙ not_odd
    opens_so (Draw now cost slots) = ap (λ (x : ℕ). x % 2 == 1) (asked_same (since_start b now)) ∙ not_odd
    opens_so (Failed now generation) = at_and (generation == stamp_of w)
        (leb b.failures (failures_of b (true ∷ rs))) (failed b (since_start b now) w) w
        (ap (λ (x : ℕ). x % 2 == 1) (failed_so (since_start b now)) ∙ failure_opens (since_start b now)) not_odd
    opens_so (Succeeded now generation worth) =
        by_bool (λ (x : ℕ). (x % 2 == 1) ≡ false) (generation == stamp_of w) (succeeded b w) w
        (λ _. succeeded_even) (λ _. not_odd)
    opens_so (Ended slots) = not_odd
    opens_so (Returned cost slots) = not_odd
    opens_so (Closed now) = not_odd
    opens_so (OpenedByHand now until) =
        eq-eqb (breaker_next b (OpenedByHand now until) w % 2) 1
        (tripped_odd (next_generation w) 0 (since_start b until) 0 0)
    opens_so (ClosedByHand now) =
        ne_eqb (closed (next_generation w) 0 % 2) 1 (λ odd. omega (arith, closed_even (next_generation w) 0, odd))

  kept_step : (c : Call) (w : ℕ) (rs : List Bool) → Keeps w rs
      → Keeps (breaker_next b c w) (cond (w % 2 == 1) [] (heard c w rs))
  kept_step c w rs keeps = by_eq (λ (ss : List Bool). Keeps (breaker_next b c w) ss) (w % 2) 1 [] (heard c w rs)
      (λ odd even. blank_next c w odd even ∙ sym none_kept)
      (λ ne. kept_next w rs (even_of w ne) (keeps (even_of w ne)) c)

  keeps_last : (calls : List Call) → Keeps (after b calls) (results_in b calls)
  keeps_last [] = λ _. sym none_kept
  keeps_last (c ∷ calls) = kept_step c (after b calls) (results_in b calls) (keeps_last calls)

pub keeps_the_last : KeepsTheLast
keeps_the_last = keeps_last

pub opens_exactly : OpensExactly
opens_exactly b calls c even =
    opens_so b (after b calls) (results_in b calls) even (keeps_last b calls even) c

pub closed_is_seen : ClosedIsSeen
closed_is_seen b calls even =
    let w : ℕ = after b calls in
    ap (λ (c : Bool). cond c (tripped_seen b w) (seen.Closed (failures_kept b (count_of w))))
    (ne_eqb (w % 2) 1 (λ odd. omega (arith, even, odd)))
    ∙ ap (λ (x : ℕ). seen.Closed (failures_kept b x)) (keeps_last b calls even)
    ∙ ap (λ (x : ℕ). seen.Closed x) (counts b (results_in b calls))

-- what a breaker by results counts, and one in a row
last_of : (b : Breaker) (o : ℕ) (rs : List Bool) → b.results ≡ o → o ≢ 0
    → failures_of b rs ≡ failures_among (take o rs)
last_of b o rs e some =
    ap (λ (n : ℕ). cond (n == 0) (failures_in_row rs) (failures_among (take n rs))) e
    ∙ ap (λ (c : Bool). cond c (failures_in_row rs) (failures_among (take o rs))) (ne_eqb o 0 some)

row_of : (a : Breaker) (rs : List Bool) → a.results ≡ 0 → failures_of a rs ≡ failures_in_row rs
row_of a rs e = ap (λ (n : ℕ). cond (n == 0) (failures_in_row rs) (failures_among (take n rs))) e

all_of : (a b : Breaker) (n : ℕ) (rs : List Bool) → a.failures ≡ n → a.results ≡ 0 → b.results ≡ n
    → leb n (failures_of b rs) ≡ leb n (failures_of a rs)
all_of a b zero rs fails row same =
    le-leb 0 (failures_of b rs) (omega arith) ∙ sym (le-leb 0 (failures_of a rs) (omega arith))
all_of a b (suc n) rs fails row same =
    ap (leb (suc n)) (last_of b (suc n) rs same (λ e. omega (arith, e)))
    ∙ all_row (suc n) rs
    ∙ ap (leb (suc n)) (sym (row_of a rs row))

pub all_are_in_row : AllAreInRow
all_are_in_row a b row by rs =
    ap (λ (n : ℕ). leb n (failures_of b rs)) by.failures ∙ all_of a b a.failures rs refl row by.results_are
