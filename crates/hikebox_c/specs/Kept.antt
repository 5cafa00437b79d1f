-- What a step makes of a word that a store keeps, and of what its request holds, as C keeps them.
use Rattle.std.specs.Prelude.{◌≡◌, ◌⊎◌, ℕ, ◌==◌, nat_lt, true, if◌then◌else◌, List, length}
use Rattle.std.specs.Prelude.{Option, Some, None, Result, Ok, Err}
use Rattle.sched_limit.specs.declared.breaker.Breaker.{Breaker}
use Rattle.sched_limit.specs.declared.breaker_machine.TheConstants.{LAST_MOMENT}
use Rattle.sched_limit.specs.Step.{Rules, step}
use Rattle.sched_limit.specs.Kinds.{breaker_rules}
use Rattle.sched_limit.specs.declared.request.Request.{Request}
use Rattle.sched_limit.specs.declared.request.Told.{Told}
use Rattle.sched_limit.specs.declared.request.Told.TheVariants.{Admit, Draw, Failed, Succeeded, Cancelled, Ended}
use Rattle.sched_limit_handle.specs.Status.{code_of}
use Rattle.sched_limit_handle.specs.declared.status.Status.{Status}
use Rattle.sched_limit_handle.specs.declared.status.Status.TheVariants.{OutOfRange, TooLarge}
use Rattle.hikebox_c.specs.Limits.{TellsRefusal}
use Rattle.hikebox_c.specs.LimitTerms.{IsBreakerGiven, IsBreakerOf}
use Rattle.hikebox_c.specs.declared.limits.BreakerGiven.{BreakerGiven}
use Rattle.hikebox_c.specs.declared.kept.HeldGiven.{HeldGiven}
use Rattle.hikebox_c.specs.declared.kept.KeptGiven.{KeptGiven}
use Rattle.hikebox_c.specs.declared.kept.ToldGiven.{ToldGiven}

-- what a request tells by the call of each number
abbrev pub told_by : ℕ → ℕ → ℕ → Told
told_by call now cost =
    if call == 0 then Admit now
    else if call == 1 then Draw now cost
    else if call == 2 then Failed now
    else if call == 3 then Succeeded now
    else if call == 4 then Cancelled
    else Ended

-- there is no other call, nor a moment past the last one
abbrev pub told_of : ℕ → ToldGiven → Result Told Status
told_of last t =
    if nat_lt 5 t.call then Err OutOfRange
    else if nat_lt last t.at then Err TooLarge
    else Ok (told_by t.call t.at t.cost)

-- what a request holds
abbrev pub drawn_of : HeldGiven → Option ℕ
drawn_of h = if h.drew then Some h.cost else None

abbrev pub request_of : HeldGiven → Request
request_of h = record { counted = h.counted; slots = h.slots; drawn = drawn_of h; generation = h.generation }

-- the word that a store knows, or the first one
abbrev pub word_in : ℕ → KeptGiven → ℕ
word_in first k = if k.known then k.word else first

-- what a step finds and leaves: what the store keeps, what the request holds, and the number of a refusal
abbrev pub Found : Type 0
Found = KeptGiven × HeldGiven × ℕ

-- a call that is refused for this reason moves nothing
abbrev pub IsUnmoved : Status → ℕ → Found → Found → Type 0
IsUnmoved why code found left = (code ≡ code_of why) × (left ≡ found)

-- a step of this machine
pub record Steps (m : Rules) (first : ℕ) (told : Told) (code : ℕ) (found left : Found) : Type 0 where
  pub known : left.0.known ≡ true
  pub word : left.0.word ≡ (step m told 0 (request_of found.1) (word_in first found.0)).word
  pub request : request_of left.1 ≡ (step m told 0 (request_of found.1) (word_in first found.0)).request
  pub told_as : TellsRefusal code found.2 left.2 (step m told 0 (request_of found.1) (word_in first found.0)).answer

-- the same of what a request tells, or the refusal of what was given
abbrev pub Does : Rules → ℕ → Result Told Status → ℕ → Found → Found → Type 0
Does m first (Ok told) code found left = Steps m first told code found left
Does m first (Err why) code found left = IsUnmoved why code found left

-- A breaker with these open times, whose clock begins at 0, does so, if there is one.
abbrev pub BreakerDoes : BreakerGiven → List ℕ → ToldGiven → ℕ → Found → Found → Type 0
BreakerDoes b times told code found left =
    ((c : Breaker) × IsBreakerOf 0 b times c × Does (breaker_rules c) 0 (told_of LAST_MOMENT told) code found left)
    ⊎ ((IsBreakerGiven b (length times) → ⊥) × IsUnmoved OutOfRange code found left)
