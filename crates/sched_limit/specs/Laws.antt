-- What holds of each limit between any two atomic steps. Each law is the contract of a function of the module `laws`.
use Rattle.std.specs.Prelude.{◌≡◌, ℕ, ◌+◌, ◌-◌, ◌≤◌, ◌%◌, ◌==◌, ◌&&◌, ◌||◌, not, Bool, true, false, min, if◌then◌else◌}
use Rattle.std.specs.Prelude.{nat_lt, nat_le}
use mathlib.Core.Option.{some}
use lib.ListN.{get_elem?}
use Rattle.atomic_table.specs.Table.{State}
use Rattle.sched_ticket.specs.Lists.{Each}
use Rattle.sched_limit_word.specs.Rule.{Next, moves_of, IsKept}
use Rattle.sched_limit_word.specs.Laws.{word_of}
use Rattle.sched_limit_word.specs.declared.call.Call.{Call}
use Rattle.sched_limit_word.specs.declared.call.Call.TheVariants.{Admit, Draw, Failed, Succeeded, Returned}
use Rattle.sched_limit_word.specs.declared.call.Call.TheVariants.{Closed, OpenedByHand, ClosedByHand}
use Rattle.sched_limit_word.specs.declared.view.Move.{Move}
use Rattle.sched_limit_word.specs.declared.view.View.{View}
use Rattle.sched_limit.specs.Bucket.{bucket_next}
use Rattle.sched_limit.specs.InFlight.{flight_next, requests_of, retries_of, bound}
use Rattle.sched_limit.specs.Word.{count_of, admitted_of, at_of, stamp_of}
use Rattle.sched_limit.specs.Breaker.{breaker_next, since_start, and_failure, failures_kept}
use Rattle.sched_limit.specs.declared.bucket.Bucket.{Bucket}
use Rattle.sched_limit.specs.declared.in_flight.InFlight.{InFlight}
use Rattle.sched_limit.specs.Window.{window_of, is_closed, requests_in, accepts_in, requests_at, accepts_at}
use Rattle.sched_limit.specs.Window.{is_open_to}
use Rattle.sched_limit.specs.Throttle.{throttle_next, window_at}
use Rattle.sched_limit.specs.declared.breaker.Breaker.{Breaker}
use Rattle.sched_limit.specs.declared.throttle.Throttle.{Throttle}

-- each move of each pass of this machine is so
abbrev pub EachMove : Next → ℕ → (Call → ℕ → ℕ → Bool) → Type 0
EachMove next first R = (s : State Call View) → IsKept next first s → (by : ℕ) (v : View) →
    get_elem? s.views by ≡ some v → Each (λ (m : Move). R m.call m.found m.left ≡ true) v.moves

-- the level is at most the capacity
abbrev pub LevelStaysWithin : Type 0
LevelStaysWithin = (b : Bucket) (s : State Call View) → IsKept (bucket_next b) b.capacity s → word_of s ≤ b.capacity

-- what draws took of a bucket, what failures took, and what came in
abbrev pub granted : Call → ℕ → ℕ → ℕ
granted (Draw now cost slots) found left = found - left
granted call found left = 0

abbrev pub debited : Call → ℕ → ℕ → ℕ
debited (Failed now generation) found left = found - left
debited call found left = 0

abbrev pub credited : Call → ℕ → ℕ → ℕ
credited (Succeeded now generation worth) found left = left - found
credited (Returned cost slots) found left = left - found
credited call found left = 0

-- the level, and what was granted and debited, is the capacity and what was credited
abbrev pub TokensAreCounted : Type 0
TokensAreCounted = (b : Bucket) (s : State Call View) → IsKept (bucket_next b) b.capacity s →
    word_of s + moves_of (λ (m : Move). granted m.call m.found m.left) s.views
    + moves_of (λ (m : Move). debited m.call m.found m.left) s.views
    ≡ b.capacity + moves_of (λ (m : Move). credited m.call m.found m.left) s.views

-- a draw took its cost, and left at least the floor
abbrev pub is_above : Bucket → Call → ℕ → ℕ → Bool
is_above b (Draw now cost slots) found left = (left == found) || ((left + cost == found) && nat_le b.floor left)
is_above b call found left = true

abbrev pub GrantsLeaveTheFloor : Type 0
GrantsLeaveTheFloor = (b : Bucket) → EachMove (bucket_next b) b.capacity (is_above b)

-- a draw that took a slot left no more retries in flight than the requests allow
abbrev pub is_within : InFlight → Call → ℕ → ℕ → Bool
is_within k (Draw now cost slots) found left =
    (retries_of left == retries_of found - slots) || nat_le (retries_of left) (bound k (requests_of left))
is_within k call found left = true

abbrev pub GrantsAreWithinTheBound : Type 0
GrantsAreWithinTheBound = (k : InFlight) → EachMove (flight_next k) 0 (is_within k)

-- no more requests are in flight than the most
abbrev pub RequestsStayWithin : Type 0
RequestsStayWithin = (k : InFlight) (s : State Call View) → IsKept (flight_next k) 0 s →
    requests_of (word_of s) ≤ k.most

-- the word of a breaker that is tripped counts no more probes than it admits
abbrev pub has_few_probes : Breaker → ℕ → Bool
has_few_probes b word = not (word % 2 == 1) || nat_le (admitted_of word) b.probes

abbrev pub ProbesAreFew : Type 0
ProbesAreFew = (b : Breaker) (s : State Call View) → IsKept (breaker_next b) 0 s →
    has_few_probes b (word_of s) ≡ true

-- an open breaker is left by one that asks at the end of its time or later, and by hand, and by none else
abbrev pub stays_open : Breaker → Call → ℕ → ℕ → Bool
stays_open b (Admit now random before) found left = nat_le (at_of found) (since_start b now)
stays_open b (Draw now cost slots) found left = nat_le (at_of found) (since_start b now)
stays_open b (OpenedByHand now until) found left = true
stays_open b (ClosedByHand now) found left = true
stays_open b call found left = false

abbrev pub is_kept_open : Breaker → Call → ℕ → ℕ → Bool
is_kept_open b call found left =
    if (found % 2 == 1) && (admitted_of found == 0) then (left == found) || stays_open b call found left else true

abbrev pub OpenIsKept : Type 0
OpenIsKept = (b : Breaker) → EachMove (breaker_next b) 0 (is_kept_open b)

-- what is told of a run of another generation changes nothing
abbrev pub is_of_now : Call → ℕ → ℕ → Bool
is_of_now (Failed now generation) found left = (left == found) || (generation == stamp_of found)
is_of_now (Succeeded now generation worth) found left = (left == found) || (generation == stamp_of found)
is_of_now call found left = true

abbrev pub LateResultsChangeNothing : Type 0
LateResultsChangeNothing = (b : Breaker) → EachMove (breaker_next b) 0 is_of_now

-- a closed breaker is tripped by the failure that makes so many of those that it keeps, or by hand, and by nothing else
abbrev pub is_last : Breaker → Call → ℕ → Bool
is_last b (Failed now generation) found = nat_le b.failures (failures_kept b (and_failure b (count_of found)))
is_last b (OpenedByHand now until) found = true
is_last b call found = false

abbrev pub trips_late : Breaker → Call → ℕ → ℕ → Bool
trips_late b call found left = (found % 2 == 1) || (not (left % 2 == 1) || is_last b call found)

abbrev pub OpensAfterFailures : Type 0
OpensAfterFailures = (b : Breaker) → EachMove (breaker_next b) 0 (trips_late b)

-- a throttle's word is left for a later window, or in an open window: one that is closed counts no more
abbrev pub is_forward : Call → ℕ → ℕ → Bool
is_forward call found left =
    (left == found)
    || (nat_lt (window_of found) (window_of left) || ((window_of found == window_of left) && not (is_closed found)))

abbrev pub ClosedIsFinal : Type 0
ClosedIsFinal = (t : Throttle) → EachMove (throttle_next t) 0 is_forward

-- what closes the window before that of its moment leaves it shut: it takes no more counts
abbrev pub ClosedIsShut : Type 0
ClosedIsShut = (t : Throttle) (at word : ℕ) → is_open_to (window_at t at - 1) (throttle_next t (Closed at) word) ≡ false

-- one that asks is one more request of its window, and a success one more accept, up to the most that are counted; and
-- what closes a window changes neither
abbrev pub counts_as : Call → ℕ → ℕ → ℕ
counts_as (Admit now random before) requests accepts = min (requests + 1) 1048575
counts_as call requests accepts = requests

abbrev pub accepts_as : Call → ℕ → ℕ → ℕ
accepts_as (Succeeded now generation worth) requests accepts = min (accepts + 1) 1048575
accepts_as call requests accepts = accepts

abbrev pub is_counted : Call → ℕ → ℕ → Bool
is_counted call found left =
    let window = window_of left in
    (left == found)
    || ((requests_in left == counts_as call (requests_at window found) (accepts_at window found))
    && (accepts_in left == accepts_as call (requests_at window found) (accepts_at window found)))

abbrev pub EachIsCounted : Type 0
EachIsCounted = (t : Throttle) → EachMove (throttle_next t) 0 is_counted
