-- Worked rows, computed with the definitions alone: what requests of a storm ask and tell a limit.
use Rattle.std.specs.Prelude.{◌≡◌, ◌+◌, Bool, true, false, replicate}
use Rattle.std.proofs.Common.{refl, arith}
use Rattle.sched_storm_limit.specs.Limits.{LimitState, state_at_first, admitting, failing, drawing, ending}
use Rattle.sched_storm_limit.specs.Limits.{succeeding}
use Rattle.sched_storm_limit.specs.declared.draws.Draws.{Draws}
use Rattle.sched_storm_limit.specs.declared.draws.Draws.TheVariants.{Limited}
use Rattle.sched_storm_limit.specs.declared.draws.Limit.TheVariants as limit

-- requests 0, 1 and 2 are admitted, and then the first call of request 0 fails
abbrev admitted : Draws → LimitState
admitted d = (admitting d 0 2 (admitting d 0 1 (admitting d 0 0 (state_at_first d 7)).1).1).1

abbrev failed : Draws → LimitState
failed d = failing d 5 0 (admitted d)

-- A bucket of 14 thousandths, of which a retry takes 5, and after a late call 10. A success gives back what the last
-- retry took, or else 1.
abbrev bucket : Draws
bucket = Limited (limit.Bucket (record { capacity = 14; floor = 0; debit = 0; credit = 1; refund = true }) 5 10)

abbrev drew : Bool × LimitState
drew = drawing bucket false 5 0 (failed bucket)

a_retry_takes : (drew.0 ≡ true) × (drew.1.words.word ≡ 9)
a_retry_takes = (refl, refl)

late : ((drawing bucket true 9 0 drew.1).0 ≡ false) × ((drawing bucket true 9 0 drew.1).1.words.word ≡ 9)
late = (refl, refl)

gives_back : ((succeeding bucket 9 0 drew.1).words.word ≡ 14) × ((succeeding bucket 9 1 drew.1).words.word ≡ 10)
gives_back = (refl, refl)

-- One retry in flight: that of request 1 is refused until request 0 is over.
abbrev flights : Draws
flights = Limited (limit.InFlight (record { least = 1; share = 0; most = 4294967295 }))

abbrev held : Bool × LimitState
held = drawing flights false 5 0 (failed flights)

one_at_once : (held.0 ≡ true) × ((drawing flights false 6 1 held.1).0 ≡ false)
one_at_once = (refl, refl)

comes_back : ((drawing flights false 6 1 (ending flights 0 held.1)).0 ≡ true)
    × ((drawing flights false 6 1 (succeeding flights 6 0 held.1)).0 ≡ true)
comes_back = (refl, refl)

-- Three requests at once: a fourth is admitted where one is over, and none where one failed.
abbrev three_at_once : Draws
three_at_once = Limited (limit.InFlight (record { least = 1; share = 0; most = 3 }))

no_fourth : ((admitting three_at_once 5 3 (admitted three_at_once)).0 ≡ false)
    × ((admitting three_at_once 5 3 (failed three_at_once)).0 ≡ false)
    × ((admitting three_at_once 6 3 (succeeding three_at_once 6 0 (failed three_at_once))).0 ≡ true)
no_fourth = (refl, refl, refl)

-- From one to ten at once, at first two, of which a failure leaves half: the third of three is refused, one that
-- succeeds makes room for two, and after a failure there is room for one.
abbrev adaptive : Draws
adaptive = Limited (limit.Adaptive (record {
  least = 1;
  most = 10;
  first = 2;
  backoff = 500;
  levels = record { some = omega arith; above = omega arith; below = omega arith; few = omega arith };
  share = (omega arith, omega arith);
}))

abbrev two_in : LimitState
two_in = (admitting adaptive 0 1 (admitting adaptive 0 0 (state_at_first adaptive 7)).1).1

no_third : ((admitting adaptive 0 2 two_in).0 ≡ false)
    × ((admitting adaptive 1 2 (failing adaptive 1 0 two_in)).0 ≡ false)
no_third = (refl, refl)

learns : ((succeeding adaptive 2 0 two_in).words.word ≡ 4294967296 + 2500)
    × ((ending adaptive 0 (failing adaptive 2 0 two_in)).words.word ≡ 4294967296 + 1000)
learns = (refl, refl)

retries_are_its_own : (drawing adaptive false 5 0 two_in).0 ≡ true
retries_are_its_own = refl

-- A breaker is open for 100 ms after one failure, so until 105. Then one is a probe. A late success changes nothing.
abbrev breaker : Draws
breaker = Limited (limit.Breaker (record {
  failures = 1;
  results = 0;
  probes = 1;
  deadline = 1000;
  start = 0;
  times = replicate 64 100;
  last = 0;
  few_failures = (omega arith, omega arith);
  few_probes = (omega arith, omega arith);
  few_trips = (omega arith, refl);
  near = omega arith;
}))

opens : ((admitting breaker 104 3 (failed breaker)).0 ≡ false) × ((admitting breaker 105 3 (failed breaker)).0 ≡ true)
opens = (refl, refl)

one_probe : (admitting breaker 106 4 (admitting breaker 105 3 (failed breaker)).1).0 ≡ false
one_probe = refl

late_success : (admitting breaker 104 3 (succeeding breaker 50 1 (failed breaker))).0 ≡ false
late_success = refl

-- A throttle asks nothing of the first request. Of two requests, of which one is accepted, it asks nothing either.
abbrev throttle : Draws
throttle = Limited (limit.Throttle (record { ratio = 2000; period = 60000; start = 0; lasts = omega arith }))

asks_nothing : ((admitting throttle 0 0 (state_at_first throttle 7)).0 ≡ true)
    × ((admitting throttle 9 1 (succeeding throttle 8 0 (admitting throttle 0 0 (state_at_first throttle 7)).1)).0
    ≡ true)
asks_nothing = (refl, refl)
