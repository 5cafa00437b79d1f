-- The terms of limits, as C gives them, and what is made of these.
use Rattle.std.specs.Prelude.{◌≡◌, ◌⊎◌, ℕ, ◌+◌, ◌<◌, ◌≤◌, List, length, slice_index, Result, Err}
use Rattle.std.specs.Global.{Global}
use Rattle.std_alloc.specs.declared.boxed.Box.{Box}
use Rattle.sched_time.specs.declared.numbers.TheConstants.{FAR}
use Rattle.sched_limit.specs.Levels.{AreLevels}
use Rattle.sched_limit.specs.declared.adaptive.Adaptive.{Adaptive}
use Rattle.sched_limit.specs.declared.bucket.Bucket.{Bucket}
use Rattle.sched_limit.specs.declared.in_flight.InFlight.{InFlight}
use Rattle.sched_limit.specs.declared.breaker.Breaker.{Breaker}
use Rattle.sched_limit.specs.declared.throttle.Throttle.{Throttle}
use Rattle.sched_limit_handle.specs.Held.{Makes, IsAdaptive, IsBreaker, IsThrottle}
use Rattle.sched_limit_handle.specs.declared.held.Held.{Held}
use Rattle.sched_limit_handle.specs.declared.status.Status.{Status}
use Rattle.sched_limit_handle.specs.declared.status.Status.TheVariants.{OutOfRange}
use Rattle.hikebox_c.specs.declared.limits.BucketGiven.{BucketGiven}
use Rattle.hikebox_c.specs.declared.limits.AdaptiveGiven.{AdaptiveGiven}
use Rattle.hikebox_c.specs.declared.limits.BreakerGiven.{BreakerGiven}

abbrev pub bucket_of : BucketGiven → Bucket
bucket_of t =
    record { capacity = t.capacity; floor = t.floor; debit = t.debit; credit = t.credit; refund = t.refund }

abbrev pub flight_of : ℕ → ℕ → ℕ → InFlight
flight_of least share most = record { least = least; share = share; most = most }

-- there is such an adaptive limit
pub record IsAdaptiveGiven (t : AdaptiveGiven) : Type 0 where
  pub levels : AreLevels t.least t.most t.first
  pub some : 1 ≤ t.backoff
  pub below : t.backoff ≤ 999

-- an adaptive limit with these terms
pub record IsAdaptiveOf (t : AdaptiveGiven) (k : Adaptive) : Type 0 where
  pub least : k.least ≡ t.least
  pub most : k.most ≡ t.most
  pub first : k.first ≡ t.first
  pub backoff : k.backoff ≡ t.backoff

abbrev pub AdaptiveMade : AdaptiveGiven → Result (Box Held Global) Status → Type 0
AdaptiveMade t r =
    ((k : Adaptive) × IsAdaptiveOf t k × Makes (IsAdaptive k) r) ⊎ ((IsAdaptiveGiven t → ⊥) × (r ≡ Err OutOfRange))

-- there is such a breaker, with so many open times
pub record IsBreakerGiven (t : BreakerGiven) (count : ℕ) : Type 0 where
  pub failures : 1 ≤ t.failures
  pub few_failures : t.failures ≤ 4294967295
  pub few_results : t.results ≤ 32
  pub of_results : 1 ≤ t.results → t.failures ≤ t.results
  pub probes : 1 ≤ t.probes
  pub few_probes : t.probes ≤ 15
  pub deadline : t.deadline ≤ FAR
  pub times : 1 ≤ count
  pub few_times : count ≤ 64

-- the first of those that are kept are these, as far as there is room
pub record AreTimes (times kept : List ℕ) : Type 0 where
  pub all : length kept ≡ 64
  pub each : (i : ℕ) → i < length times → i < 64 → slice_index kept i ≡ slice_index times i

-- a breaker with these terms and these open times
pub record IsBreakerOf (now : ℕ) (t : BreakerGiven) (times : List ℕ) (b : Breaker) : Type 0 where
  pub failures : b.failures ≡ t.failures
  pub results : b.results ≡ t.results
  pub probes : b.probes ≡ t.probes
  pub deadline : b.deadline ≡ t.deadline
  pub start : b.start ≡ now
  pub times_are : AreTimes times b.times
  pub last : b.last + 1 ≡ length times

abbrev pub BreakerMade : ℕ → BreakerGiven → List ℕ → Result (Box Held Global) Status → Type 0
BreakerMade now t times r = ((b : Breaker) × IsBreakerOf now t times b × Makes (IsBreaker b) r)
    ⊎ ((IsBreakerGiven t (length times) → ⊥) × (r ≡ Err OutOfRange))

-- there is such a throttle
pub record IsThrottleGiven (ratio period : ℕ) : Type 0 where
  pub most : 1000 ≤ ratio
  pub some : 1 ≤ period
  pub near : period ≤ FAR

pub record IsThrottleOf (now ratio period : ℕ) (t : Throttle) : Type 0 where
  pub ratio_is : t.ratio ≡ ratio
  pub period_is : t.period ≡ period
  pub start : t.start ≡ now

abbrev pub ThrottleMade : ℕ → ℕ → ℕ → Result (Box Held Global) Status → Type 0
ThrottleMade now ratio period r =
    ((t : Throttle) × IsThrottleOf now ratio period t × Makes (IsThrottle t) r)
    ⊎ ((IsThrottleGiven ratio period → ⊥) × (r ≡ Err OutOfRange))
