-- What is told of a limit's state, and of breakers that somebody opens or closes by hand.
use Rattle.std.specs.Prelude.{◌≡◌, ℕ, Bool, true, false, Option, Some, None, Result, Ok, Err}
use Rattle.sched_limit.specs.declared.seen.Seen.{Seen}
use Rattle.sched_limit.specs.declared.seen.Seen.TheVariants as seen
use Rattle.sched_handle.specs.Status.{code_of}
use Rattle.sched_handle.specs.declared.status.Status.{Status}
use Rattle.sched_handle.specs.declared.status.Status.TheVariants.{WrongKind, OutOfRange}
use Rattle.hikebox_c.specs.declared.states.StateTold.{StateTold}

-- a state as C has it
abbrev pub state_told : Seen → StateTold
state_told (seen.Bucket level capacity) =
    record { size = 48; kind = 1; first = level; second = capacity; third = 0; until = 0 }
state_told (seen.InFlight requests retries most) =
    record { size = 48; kind = 2; first = requests; second = retries; third = most; until = 0 }
state_told (seen.Closed failures) = record { size = 48; kind = 3; first = failures; second = 0; third = 0; until = 0 }
state_told (seen.Open until trip) =
    record { size = 48; kind = 4; first = trip; second = 0; third = 0; until = until }
state_told (seen.HalfOpen admitted won) =
    record { size = 48; kind = 5; first = admitted; second = won; third = 0; until = 0 }
state_told (seen.Throttle requests accepts) =
    record { size = 48; kind = 6; first = requests; second = accepts; third = 0; until = 0 }
state_told (seen.Adaptive inside level) =
    record { size = 48; kind = 7; first = inside; second = level; third = 0; until = 0 }

-- the state stands in its place; where there is no such limit, the place is as it was
abbrev pub TellsState : ℕ → StateTold → StateTold → Result (Option Seen) Status → Type 0
TellsState code old new (Ok (Some s)) = (code ≡ 0) × (new ≡ state_told s)
TellsState code old new (Ok None) = (code ≡ code_of OutOfRange) × (new ≡ old)
TellsState code old new (Err s) = (code ≡ code_of s) × (new ≡ old)

-- a handle without a breaker is one of another kind
abbrev pub hand_code : Result Bool Status → ℕ
hand_code (Ok true) = 0
hand_code (Ok false) = code_of WrongKind
hand_code (Err s) = code_of s
