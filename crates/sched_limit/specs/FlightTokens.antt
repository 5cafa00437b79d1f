-- The tokens of what is in flight: kind 0 is that of its slots, and each other that of its requests. An admission gains
-- a request, and a granted draw a slot; what ends, draws or is cancelled gives them back.
use Rattle.std.specs.Prelude.{◌≡◌, ℕ, zero, suc, ◌+◌, ◌-◌, if◌then◌else◌, nat_lt}
use Rattle.atomic_table.specs.Table.{State}
use Rattle.sched_limit_word.specs.Laws.{word_of}
use Rattle.sched_limit_word.specs.Rule.{moves_of}
use Rattle.sched_limit_word.specs.Tokens.{Tokens, IsOwned}
use Rattle.sched_limit_word.specs.declared.call.Call.{Call}
use Rattle.sched_limit_word.specs.declared.call.Call.TheVariants.{Admit, Draw, Ended, Returned}
use Rattle.sched_limit_word.specs.declared.view.Move.{Move}
use Rattle.sched_limit_word.specs.declared.view.View.{View}
use Rattle.sched_limit.specs.Holds.{Holds}
use Rattle.sched_limit.specs.InFlight.{flight_next, requests_of, retries_of, bound}
use Rattle.sched_limit.specs.declared.in_flight.InFlight.{InFlight}

-- how many of a kind are in flight
abbrev pub in_flight : ℕ → ℕ → ℕ
in_flight zero word = retries_of word
in_flight (suc kind) word = requests_of word

abbrev pub flight_gained : InFlight → Call → ℕ → ℕ → ℕ
flight_gained k (Draw now cost slots) zero found =
    if nat_lt (retries_of found - slots) (bound k (requests_of found)) then 1 else 0
flight_gained k (Admit now random before) (suc kind) found = if nat_lt (requests_of found) k.most then 1 else 0
flight_gained k call kind found = 0

abbrev pub flight_used : Call → ℕ → ℕ
flight_used (Draw now cost slots) zero = slots
flight_used (Returned cost slots) zero = slots
flight_used (Ended slots) zero = slots
flight_used (Ended slots) (suc kind) = 1
flight_used call kind = 0

abbrev pub flight_tokens : InFlight → Tokens
flight_tokens k = record {
  gained = λ m kind. flight_gained k m.call kind m.found;
  used = λ m kind. flight_used m.call kind;
}

abbrev pub flight_holds : Holds
flight_holds r zero = r.slots
flight_holds r (suc kind) = if r.counted then 1 else 0

-- what was given back, and what is in flight, is what was gained
abbrev pub InFlightIsCounted : Type 0
InFlightIsCounted = (k : InFlight) (s : State Call View) → IsOwned (flight_tokens k) (flight_next k) 0 s →
    (kind : ℕ) → in_flight kind (word_of s) + moves_of (λ (m : Move). flight_used m.call kind) s.views
    ≡ moves_of (λ (m : Move). flight_gained k m.call kind m.found) s.views
