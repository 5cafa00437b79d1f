-- The throttle as a sequential machine, on the word of one window; a call has what the window before counted.
use Rattle.std.specs.Prelude.{ℕ, ◌+◌, ◌-◌, ◌*◌, ◌/◌, ◌&&◌, min, Bool, if◌then◌else◌, nat_lt, Option, Some, None}
use Rattle.sched_limit_word.specs.declared.call.Call.{Call}
use Rattle.sched_limit_word.specs.declared.call.Call.TheVariants.{Admit, Draw, Failed, Succeeded, Ended, Returned}
use Rattle.sched_limit_word.specs.declared.call.Call.TheVariants.{Closed, OpenedByHand, ClosedByHand}
use Rattle.sched_limit.specs.Window.{counted, requests_at, accepts_at, is_open_to}
use Rattle.sched_limit.specs.declared.refusal.Refusal.{Refusal}
use Rattle.sched_limit.specs.declared.refusal.Refusal.TheVariants.{Throttled, RacesLost}
use Rattle.sched_limit.specs.declared.throttle.Throttle.{Throttle}

-- the window of a moment, from 1 on; the last one has no end
abbrev pub window_at : Throttle → ℕ → ℕ
window_at t now = min ((now - t.start) / t.period + 1) 8388607

-- one of so many requests, of which so many were accepted, is refused with the probability
-- (requests - ratio * accepts) / (requests + 1), by a random word of 32 bits
abbrev pub is_throttled : Throttle → ℕ → ℕ → ℕ → Bool
is_throttled t requests accepts random =
    nat_lt (t.ratio * accepts) (1000 * requests)
    && nat_lt (random * (requests + 1) * 1000) ((1000 * requests - t.ratio * accepts) * 4294967296)

-- one more request of this window
abbrev pub asks_in : ℕ → ℕ → ℕ
asks_in window word = counted window 0 (min (requests_at window word + 1) 1048575) (accepts_at window word)

-- one more accept
abbrev pub accepted_in : ℕ → ℕ → ℕ
accepted_in window word = counted window 0 (requests_at window word) (min (accepts_at window word + 1) 1048575)

-- the window takes no more counts
abbrev pub closed_in : ℕ → ℕ → ℕ
closed_in window word = counted window 1 (requests_at window word) (accepts_at window word)

abbrev pub throttle_next : Throttle → Call → ℕ → ℕ
throttle_next t (Admit now random before) word =
    if is_open_to (window_at t now) word then asks_in (window_at t now) word else word
throttle_next t (Draw now cost slots) word = word
throttle_next t (Failed now generation) word = word
throttle_next t (Succeeded now generation worth) word =
    if is_open_to (window_at t now) word then accepted_in (window_at t now) word else word
throttle_next t (Ended slots) word = word
throttle_next t (Returned cost slots) word = word
throttle_next t (Closed now) word =
    if is_open_to (window_at t now - 1) word then closed_in (window_at t now - 1) word else word
throttle_next t (OpenedByHand now until) word = word
throttle_next t (ClosedByHand now) word = word

-- one asks in this window, where the one before is another word
abbrev pub asks_throttle : Throttle → ℕ → ℕ → ℕ → ℕ → Bool
asks_throttle t window random before word =
    is_throttled t (requests_at window word + requests_at (window - 1) before)
    (accepts_at window word + accepts_at (window - 1) before) random

-- a request of a window that is closed comes late
abbrev pub throttle_refusal : Throttle → Call → ℕ → Option Refusal
throttle_refusal t (Admit now random before) word =
    if is_open_to (window_at t now) word
    then (if asks_throttle t (window_at t now) random before word then Some Throttled else None)
    else Some RacesLost
throttle_refusal t (Draw now cost slots) word = None
throttle_refusal t (Failed now generation) word = None
throttle_refusal t (Succeeded now generation worth) word = None
throttle_refusal t (Ended slots) word = None
throttle_refusal t (Returned cost slots) word = None
throttle_refusal t (Closed now) word = None
throttle_refusal t (OpenedByHand now until) word = None
throttle_refusal t (ClosedByHand now) word = None
