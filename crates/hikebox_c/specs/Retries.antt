-- What the calls on retries do.
use Rattle.std.specs.Prelude.{◌≡◌, ◌≢◌, ℕ, ◌<◌, ◌≤◌, if◌then◌else◌, nat_eq, nat_le, List, Option, Some, None, is_some}
use Rattle.std.specs.Prelude.{MatchBool, Result, Ok, Err}
use Rattle.sched_time.specs.declared.numbers.TheConstants.{FAR}
use Rattle.sched_time.specs.declared.numbers.Tick.{Tick}
use Rattle.sched_effect.specs.declared.ran.Ran.{Ran}
use Rattle.sched_effect.specs.declared.ran.Ran.TheVariants.{Won, Lost}
use Rattle.sched_handle.specs.Again.{Again}
use Rattle.sched_handle.specs.Retries.{Retries, Polls}
use Rattle.sched_handle.specs.Status.{code_of, told}
use Rattle.sched_handle.specs.declared.held.Held.{Held}
use Rattle.sched_handle.specs.declared.replies.Reply.{Reply}
use Rattle.sched_handle.specs.declared.status.Status.{Status}
use Rattle.sched_handle.specs.declared.status.Status.TheVariants.{Empty, Full, TooLarge, NoSuchReport}
use Rattle.hikebox_c.specs.Calls.{Puts, OnHeld, MakesWith}

-- a retry of what the first handle holds is made with what the second holds; the policy is asked for before the pass
abbrev pub NewRetry : Option ℕ → Option Held → Option Held → Option Held → Option Held → ℕ → Option Held → Type 0
NewRetry deadline None pass left u code v = MatchBool (is_some u)
    ((left ≡ pass) × Puts u code v (Err Full))
    ((left ≡ pass) × Puts u code v (Err Empty))
NewRetry deadline (Some policy) pass left u code v = MakesWith (Retries deadline policy) pass left u code v

-- the deadline that a number means: 2^64 - 1 is none, and another one past the last moment is refused
abbrev pub deadline_of : ℕ → Result (Option ℕ) Status
deadline_of number =
    if nat_eq number 18446744073709551615 then Ok None else if nat_le number FAR then Ok (Some number) else Err TooLarge

-- the same by this deadline, which is looked at first
abbrev pub NewRetryBy : Result (Option ℕ) Status → Option Held → Option Held → Option Held → Option Held → ℕ →
    Option Held → Type 0
NewRetryBy (Ok deadline) policy pass left u code v = NewRetry deadline policy pass left u code v
NewRetryBy (Err s) policy pass left u code v = (left ≡ pass) × Puts u code v (Err s)

-- a retry begins again with this deadline, which is looked at first
abbrev pub AgainBy : Result (Option ℕ) Status → Option Held → ℕ → Option Held → Type 0
AgainBy (Ok deadline) u code v = OnHeld (Again deadline) u v (λ r. code ≡ told r)
AgainBy (Err s) u code v = (v ≡ u) × (code ≡ code_of s)

-- the run that a number and a code report, if any
abbrev pub Reports : ℕ → ℕ → Result (Option Ran) Status → Type 0
Reports report code (Ok None) = report ≡ 0
Reports report code (Ok (Some (Won c))) = (report ≡ 1) × (c ≡ code)
Reports report code (Ok (Some (Lost c))) = (report ≡ 2) × (c ≡ code)
Reports report code (Err NoSuchReport) = 2 < report
Reports report code (Err TooLarge) = (report ≢ 0) × (report ≤ 2) × (FAR < code)
Reports report code (Err _) = ⊥

-- a poll with this report
abbrev pub PollsWith : Tick → Result (Option Ran) Status → Option Held → Option Held →
    (Result Reply Status → Type 0) → Type 0
PollsWith t (Ok report) u w tells = OnHeld (Polls t report) u w tells
PollsWith t (Err s) u w tells = (w ≡ u) × tells (Err s)

-- what is reported is told apart once the moment is in range, and before the handle is looked at
abbrev pub PollsAt : ℕ → List ℕ → ℕ → ℕ → Option Held → Option Held → (Result Reply Status → Type 0) → Type 0
PollsAt now words report code u w tells =
    (r : Result (Option Ran) Status) × Reports report code r
    × PollsWith (record { now = now; words = words }) r u w tells
