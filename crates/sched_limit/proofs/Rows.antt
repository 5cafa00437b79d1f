-- Worked rows of each limit, computed with the definitions alone.
use Rattle.std.specs.Prelude.{◌≡◌, ℕ, ◌+◌, ◌*◌, ◌∷◌, replicate, Ok, Err}
use Rattle.std.proofs.Common.{refl, arith, suc, zero}
use Rattle.std.specs.Int.Count.{ones}
use Rattle.sched_limit_word.specs.declared.call.Call.TheVariants.{OpenedByHand, ClosedByHand}
use Rattle.sched_limit.specs.Step.{Rules, Step, step, nothing, admitted}
use Rattle.sched_limit.specs.Turns.{Steps, steps}
use Rattle.sched_limit.specs.Kinds.{bucket_rules, flight_rules, breaker_rules}
use Rattle.sched_limit.specs.Bucket.{grpc_bucket}
use Rattle.sched_limit.specs.Breaker.{breaker_next}
use Rattle.sched_limit.specs.declared.breaker.Breaker.{Breaker}
use Rattle.sched_limit.specs.declared.throttle.Throttle.{Throttle}
use Rattle.sched_limit.specs.declared.refusal.Refusal.TheVariants.{LevelLow, Full, Open, Probing, Throttled}
use Rattle.sched_limit.specs.declared.request.Told.{Told}
use Rattle.sched_limit.specs.declared.request.Told.TheVariants.{Admit, Draw, Failed, Succeeded, Ended}

abbrev at_first : ℕ → Step
at_first word = record { word = word; answer = Ok tt; request = nothing }

-- gRPC's bucket of 4 tokens, of which a success gives half of one
abbrev bucket : Step → Told → Step
bucket s told = step (bucket_rules (grpc_bucket 4 500)) told 0 s.request s.word

abbrev once : Step
once = bucket (bucket (bucket (at_first 4000) (Admit 0)) (Failed 1)) (Draw 1 0)

abbrev twice : Step
twice = bucket (bucket once (Failed 2)) (Draw 2 0)

abbrev better : Step
better = bucket (bucket twice (Succeeded 3)) (Draw 3 0)

abbrev worse : Step
worse = bucket (bucket better (Failed 4)) (Draw 4 0)

granted_above_half : (once.word ≡ 3000) × (once.answer ≡ Ok tt)
granted_above_half = (refl, refl)

refused_at_half : (twice.word ≡ 2000) × (twice.answer ≡ Err (LevelLow 2000))
refused_at_half = (refl, refl)

filled_by_half : (better.word ≡ 2500) × (better.answer ≡ Ok tt)
filled_by_half = (refl, refl)

refused_below : (worse.word ≡ 1500) × (worse.answer ≡ Err (LevelLow 1500))
refused_below = (refl, refl)

-- one retry in flight, or a fifth of the requests, of which there are ten
abbrev flight : Rules
flight = flight_rules (record { least = 1; share = 200; most = 4294967295 })

abbrev came : ℕ → ℕ
came zero = 0
came (suc n) = (step flight (Admit 0) 0 nothing (came n)).word

abbrev first : Step
first = step flight (Draw 1 0) 0 (admitted 0) (came 10)

abbrev second : Step
second = step flight (Draw 1 0) 0 (admitted 0) first.word

abbrev third : Step
third = step flight (Draw 1 0) 0 (admitted 0) second.word

abbrev over : Step
over = step flight Ended 0 first.request third.word

abbrev still : Step
still = step flight (Draw 2 0) 0 third.request over.word

abbrev both_over : Step
both_over = step flight Ended 0 second.request still.word

ten : came 10 ≡ 10 * 4294967296
ten = refl

two_of_three : (first.answer ≡ Ok tt) × (second.answer ≡ Ok tt) × (third.answer ≡ Err Full)
two_of_three = (refl, refl, refl)

one_is_over : over.word ≡ 9 * 4294967296 + 1
one_is_over = refl

the_third : (still.answer ≡ Err Full) × ((step flight (Draw 3 0) 0 still.request both_over.word).answer ≡ Ok tt)
the_third = (refl, refl)

-- a breaker of two failures and one probe, open for 100 ms and then for 200
abbrev times_two : Breaker
times_two = record {
  failures = 2;
  results = 0;
  probes = 1;
  deadline = 1000;
  start = 0;
  times = 100 ∷ 200 ∷ replicate 62 400;
  last = 63;
  few_failures = (omega arith, omega arith);
  few_probes = (omega arith, omega arith);
  few_trips = (omega arith, refl);
  near = omega arith;
}

abbrev breaker : Rules
breaker = breaker_rules times_two

abbrev run : ℕ → ℕ → Step
run now word = step breaker (Admit now) 0 nothing word

abbrev tells : Told → Step → ℕ → Step
tells told r word = step breaker told 0 r.request word

abbrev failed_once : Step
failed_once = tells (Failed 0) (run 0 0) 0

abbrev opened : Step
opened = tells (Failed 10) (run 0 0) failed_once.word

abbrev probe : Step
probe = run 110 opened.word

abbrev opened_again : Step
opened_again = tells (Failed 120) probe probe.word

abbrev last_probe : Step
last_probe = run 320 opened_again.word

is_open : (run 109 opened.word).answer ≡ Err (Open 110)
is_open = refl

one_probe : (probe.answer ≡ Ok tt) × ((run 111 probe.word).answer ≡ Err Probing)
one_probe = (refl, refl)

is_open_longer : (run 319 opened_again.word).answer ≡ Err (Open 320)
is_open_longer = refl

closes : (last_probe.answer ≡ Ok tt)
    × ((run 321 (tells (Succeeded 320) last_probe last_probe.word).word).answer ≡ Ok tt)
    × ((run 322 (tells (Succeeded 320) last_probe last_probe.word).word).answer ≡ Ok tt)
closes = (refl, refl, refl)

-- the same, but that two of its last three results open it
abbrev two_of_three_results : Breaker
two_of_three_results = record {
  failures = 2;
  results = 3;
  probes = 1;
  deadline = 1000;
  start = 0;
  times = 100 ∷ 200 ∷ replicate 62 400;
  last = 63;
  few_failures = (omega arith, omega arith);
  few_probes = (omega arith, omega arith);
  few_trips = (omega arith, refl);
  near = omega arith;
}

abbrev by_last : Rules
by_last = breaker_rules two_of_three_results

-- what a request that was admitted at 0 tells of it
abbrev told_it : Told → ℕ → Step
told_it told word = step by_last told 0 (admitted 0) word

abbrev succeeded_late : ℕ
succeeded_late = (told_it (Succeeded 3) (told_it (Succeeded 2) (told_it (Failed 1) 0).word).word).word

abbrev failed_later : ℕ
failed_later = (told_it (Failed 4) succeeded_late).word

failed_of_three : (step by_last (Admit 4) 0 nothing failed_later).answer ≡ Ok tt
unfolding ones
failed_of_three = refl

opened_by_the_last : (step by_last (Admit 104) 0 nothing (told_it (Failed 5) failed_later).word).answer ≡ Err (Open 105)
unfolding ones
opened_by_the_last = refl

-- by hand until 50, and closed by hand
abbrev by_hand : ℕ
by_hand = breaker_next times_two (OpenedByHand 20 50) failed_once.word

open_by_hand : ((run 49 by_hand).answer ≡ Err (Open 50)) × ((run 50 by_hand).answer ≡ Ok tt)
open_by_hand = (refl, refl)

late_by_hand : (tells (Failed 60) (run 0 0) (run 50 by_hand).word).word ≡ (run 50 by_hand).word
late_by_hand = refl

-- the next trip is the second one
again_by_hand : (run 259 (tells (Failed 60) (run 50 by_hand) (run 50 by_hand).word).word).answer ≡ Err (Open 260)
again_by_hand = refl

closed_by_hand : (breaker_next times_two (ClosedByHand 30) by_hand ≡ 2 * 4503599627370496)
    × ((tells (Failed 60) (run 0 0) (2 * 4503599627370496)).word ≡ 2 * 4503599627370496)
closed_by_hand = (refl, refl)

late_failure : (tells (Failed 130) (run 5 failed_once.word) opened_again.word).word ≡ opened_again.word
late_failure = refl

-- four requests of a throttle, of which none is accepted, with the word 2^31
abbrev throttle : Throttle
throttle = record { ratio = 2000; period = 60000; start = 0; lasts = omega arith }

abbrev asked : Steps → Steps
asked s = steps throttle (Admit 0) 2147483648 nothing s.even s.odd

abbrev none : Steps
none = record { answer = Ok tt; request = nothing; even = 0; odd = 0 }

two_are_admitted : ((asked none).answer ≡ Ok tt) × ((asked (asked none)).answer ≡ Ok tt)
two_are_admitted = (refl, refl)

two_are_refused : ((asked (asked (asked none))).answer ≡ Err Throttled)
    × ((asked (asked (asked (asked none)))).answer ≡ Err Throttled)
two_are_refused = (refl, refl)
