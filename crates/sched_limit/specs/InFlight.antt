-- What is in flight as a sequential machine: its word is 2^32 for each request, and one for each retry.
use Rattle.std.specs.Prelude.{ℕ, ◌+◌, ◌-◌, ◌*◌, ◌/◌, ◌%◌, min, max, if◌then◌else◌, nat_lt, Option, Some, None}
use Rattle.sched_limit_word.specs.declared.call.Call.{Call}
use Rattle.sched_limit_word.specs.declared.call.Call.TheVariants.{Admit, Draw, Failed, Succeeded, Ended, Returned}
use Rattle.sched_limit_word.specs.declared.call.Call.TheVariants.{Closed, OpenedByHand, ClosedByHand}
use Rattle.sched_limit.specs.declared.refusal.Refusal.{Refusal}
use Rattle.sched_limit.specs.declared.refusal.Refusal.TheVariants.{TooMany, Full}
use Rattle.sched_limit.specs.declared.in_flight.InFlight.{InFlight}

abbrev pub requests_of : ℕ → ℕ
requests_of word = word / 4294967296

abbrev pub retries_of : ℕ → ℕ
retries_of word = word % 4294967296

-- how many retries so many requests allow
abbrev pub bound : InFlight → ℕ → ℕ
bound k requests = min (max k.least (k.share * requests / 1000)) 4294967295

-- a draw is granted where one retry more is within the bound
abbrev pub retried : InFlight → ℕ → ℕ → ℕ
retried k requests retries =
    if nat_lt retries (bound k requests) then requests * 4294967296 + (retries + 1) else requests * 4294967296 + retries

-- a draw gives back first what the request's earlier retries hold, and so do its cancelling and the request's end
abbrev pub flight_next : InFlight → Call → ℕ → ℕ
flight_next k (Admit now random before) word = if nat_lt (requests_of word) k.most then word + 4294967296 else word
flight_next k (Draw now cost slots) word = retried k (requests_of word) (retries_of word - slots)
flight_next k (Failed now generation) word = word
flight_next k (Succeeded now generation worth) word = word
flight_next k (Ended slots) word = (requests_of word - 1) * 4294967296 + (retries_of word - slots)
flight_next k (Returned cost slots) word = requests_of word * 4294967296 + (retries_of word - slots)
flight_next k (Closed now) word = word
flight_next k (OpenedByHand now until) word = word
flight_next k (ClosedByHand now) word = word

abbrev pub flight_refusal : InFlight → Call → ℕ → Option Refusal
flight_refusal k (Admit now random before) word = if nat_lt (requests_of word) k.most then None else Some TooMany
flight_refusal k (Draw now cost slots) word =
    if nat_lt (retries_of word - slots) (bound k (requests_of word)) then None else Some Full
flight_refusal k (Failed now generation) word = None
flight_refusal k (Succeeded now generation worth) word = None
flight_refusal k (Ended slots) word = None
flight_refusal k (Returned cost slots) word = None
flight_refusal k (Closed now) word = None
flight_refusal k (OpenedByHand now until) word = None
flight_refusal k (ClosedByHand now) word = None
