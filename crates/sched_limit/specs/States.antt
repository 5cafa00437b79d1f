-- What each limit's state is, as its words say.
use Rattle.std.specs.Prelude.{◌≡◌, ℕ, ◌+◌, ◌-◌, ◌%◌, ◌==◌, min, if◌then◌else◌, List}
use Rattle.sched_limit_word.specs.declared.call.Call.{Call}
use Rattle.sched_limit.specs.Adaptive.{inside_of, level_of}
use Rattle.sched_limit.specs.Breaker.{failures_kept}
use Rattle.sched_limit.specs.InFlight.{requests_of, retries_of}
use Rattle.sched_limit.specs.Results.{after, results_in, failures_of}
use Rattle.sched_limit.specs.Throttle.{window_at}
use Rattle.sched_limit.specs.Window.{requests_at, accepts_at}
use Rattle.sched_limit.specs.Word.{count_of, won_of, admitted_of, at_of, trip_of}
use Rattle.sched_limit.specs.declared.breaker.Breaker.{Breaker}
use Rattle.sched_limit.specs.declared.bucket.Bucket.{Bucket}
use Rattle.sched_limit.specs.declared.in_flight.InFlight.{InFlight}
use Rattle.sched_limit.specs.declared.seen.Seen.{Seen}
use Rattle.sched_limit.specs.declared.seen.Seen.TheVariants as seen
use Rattle.sched_limit.specs.declared.throttle.Throttle.{Throttle}

abbrev pub bucket_seen : Bucket → ℕ → Seen
bucket_seen b level = seen.Bucket level b.capacity

abbrev pub flight_seen : InFlight → ℕ → Seen
flight_seen k word = seen.InFlight (requests_of word) (retries_of word) k.most

abbrev pub adaptive_seen : ℕ → Seen
adaptive_seen word = seen.Adaptive (inside_of word) (level_of word)

-- of a tripped breaker: an open one has no probe
abbrev pub tripped_seen : Breaker → ℕ → Seen
tripped_seen b word =
    if admitted_of word == 0
    then seen.Open (min (b.start + at_of word) 4611686018427387903) (trip_of word + 1)
    else seen.HalfOpen (admitted_of word) (won_of word)

abbrev pub breaker_seen : Breaker → ℕ → Seen
breaker_seen b word =
    if word % 2 == 1 then tripped_seen b word else seen.Closed (failures_kept b (count_of word))

-- what two words count of a window and of the one before
abbrev pub counted_seen : ℕ → ℕ → ℕ → Seen
counted_seen window here before =
    seen.Throttle (requests_at window here + requests_at (window - 1) before)
    (accepts_at window here + accepts_at (window - 1) before)

-- by the words of even windows and of odd ones
abbrev pub throttle_seen : Throttle → ℕ → ℕ → ℕ → Seen
throttle_seen t now even odd =
    let window = window_at t now in
    if window % 2 == 0 then counted_seen window even odd else counted_seen window odd even

-- what is seen of a closed breaker is the failures that count of its generation's results, whatever calls came
abbrev pub ClosedIsSeen : Type 0
ClosedIsSeen = (b : Breaker) (calls : List Call) → after b calls % 2 ≡ 0 →
    breaker_seen b (after b calls) ≡ seen.Closed (failures_of b (results_in b calls))
