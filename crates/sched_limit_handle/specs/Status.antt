-- The numbers by which C knows the statuses; 0 is that of a call that is done.
use Rattle.std.specs.Prelude.{ℕ}
use Rattle.sched_limit.specs.declared.refusal.Refusal.{Refusal}
use Rattle.sched_limit.specs.declared.refusal.Refusal.TheVariants as refusal
use Rattle.sched_limit_handle.specs.declared.status.Status.{Status}
use Rattle.sched_limit_handle.specs.declared.status.Status.TheVariants as status

abbrev pub code_of : Status → ℕ
code_of status.Empty = 1
code_of status.WrongKind = 2
code_of status.Full = 3
code_of status.NoMemory = 4
code_of status.TooLarge = 5
code_of status.WrongSize = 7
code_of status.OutOfRange = 12
code_of status.TooManyPasses = 33
code_of status.RacesLost = 38
code_of status.LevelLow = 60
code_of status.RequestsFull = 61
code_of status.RetriesFull = 62
code_of status.BreakerOpen = 63
code_of status.Probing = 64
code_of status.Throttled = 65
code_of status.OutOfTurn = 66

-- the status of a refusal
abbrev pub refused_as : Refusal → Status
refused_as (refusal.LevelLow level) = status.LevelLow
refused_as refusal.TooMany = status.RequestsFull
refused_as refusal.Full = status.RetriesFull
refused_as (refusal.Open until) = status.BreakerOpen
refused_as refusal.Probing = status.Probing
refused_as refusal.Throttled = status.Throttled
refused_as refusal.RacesLost = status.RacesLost
refused_as refusal.OutOfTurn = status.OutOfTurn

-- the level of a bucket, or the moment until which a breaker is open
abbrev pub number_of : Refusal → ℕ
number_of (refusal.LevelLow level) = level
number_of (refusal.Open until) = until
number_of why = 0
