-- What the calls on limits do, tell and leave, by what their handles held before.
use Rattle.std.specs.Prelude.{◌≡◌, ◌≢◌, ◌⊎◌, ℕ, ◌+◌, ◌<◌, Option, Some, None, is_some, MatchBool, Result, Ok, Err}
use Rattle.std.specs.Global.{Global}
use Rattle.std_alloc.specs.declared.boxed.Box.{Box}
use Rattle.sched_limit.specs.Step.{Answer}
use Rattle.sched_limit.specs.declared.request.Told.{Told}
use Rattle.sched_limit_request.specs.Asks.{Hears}
use Rattle.sched_limit_handle.specs.Held.{SplitsHeld, held_asked}
use Rattle.sched_limit_handle.specs.Status.{refused_as, number_of, code_of as reason_code}
use Rattle.sched_limit_handle.specs.declared.held.Held.{Held as AtOnce}
use Rattle.sched_limit_handle.specs.declared.status.Status.{Status as Reason}
use Rattle.sched_handle.specs.Held.{kind_of}
use Rattle.sched_handle.specs.Limits.{OnLimits, CountsLimits, AreFew, JoinsLimits}
use Rattle.sched_handle.specs.Status.{code_of, told}
use Rattle.sched_handle.specs.declared.held.Held.{Held}
use Rattle.sched_handle.specs.declared.held.Held.TheVariants.{Limits}
use Rattle.sched_handle.specs.declared.held.Kind.TheVariants as kind
use Rattle.sched_handle.specs.declared.status.Status.{Status}
use Rattle.sched_handle.specs.declared.status.Status.TheVariants.{Empty, WrongKind, Full, NoMemory, OutOfRange}
use Rattle.hikebox_c.specs.Calls.{OnHeld}

-- limits that were made are put in, or there is no memory for what holds them; or the reason is told
abbrev pub PutsLimits : Result (Box AtOnce Global) Reason → Option Held → ℕ → Option Held → Type 0
PutsLimits (Ok l) u code v = ((v ≡ Some (Limits l)) × (code ≡ 0)) ⊎ ((v ≡ u) × (code ≡ code_of NoMemory))
PutsLimits (Err why) u code v = (v ≡ u) × (code ≡ reason_code why)

-- what was made is put into a handle, which is refused where it is full
abbrev pub MakesLimit : (Result (Box AtOnce Global) Reason → Type 0) → Option Held → ℕ → Option Held → Type 0
MakesLimit made u code v = MatchBool (is_some u)
    ((v ≡ u) × (code ≡ code_of Full))
    ((r : Result (Box AtOnce Global) Reason) × made r × PutsLimits r u code v)

-- a refusal is told by its number, and by what it says; an answer that is none leaves the place as it was
abbrev pub TellsRefusal : ℕ → ℕ → ℕ → Answer → Type 0
TellsRefusal code old new (Ok x) = (code ≡ 0) × (new ≡ old)
TellsRefusal code old new (Err why) = (code ≡ reason_code (refused_as why)) × (new ≡ number_of why)

abbrev pub TellsAsked : ℕ → ℕ → ℕ → Result Answer Status → Type 0
TellsAsked code old new (Ok r) = TellsRefusal code old new r
TellsAsked code old new (Err s) = (code ≡ code_of s) × (new ≡ old)

-- the limits of a handle are told, which is not refused
abbrev pub TellsHeld : Told → Option Held → Option Held → ℕ → Type 0
TellsHeld what u v code =
    OnHeld (OnLimits (λ d _ e. Hears held_asked what d e)) u v (λ (r : Result (Unit {0}) Status). code ≡ told r)

-- a part of what a handle holds is put into another, which is refused where it is full
abbrev pub PutsPart : Option Held → ℕ → Option Held → Result (Result (Box AtOnce Global) Reason) Status → Type 0
PutsPart u code v (Ok r) = PutsLimits r u code v
PutsPart u code v (Err s) = (v ≡ u) × (code ≡ code_of s)

abbrev pub PartsHeld : Option Held → Option Held → Option Held → ℕ → Option Held → Type 0
PartsHeld source left u code v = MatchBool (is_some u)
    ((left ≡ source) × (v ≡ u) × (code ≡ code_of Full))
    (OnHeld (OnLimits SplitsHeld) source left (PutsPart u code v))

-- The limits of both handles are held by the first one, and the second is empty. A handle that is empty, or of another
-- kind, is refused, and so are more than four limits, and both are as they were.
abbrev pub NoneJoined : Option Held → Option Held → Status → ℕ → Option Held → Option Held → Type 0
NoneJoined u v why code w x = (w ≡ u) × (x ≡ v) × (code ≡ code_of why)

abbrev pub JoinsHeld : Option Held → Option Held → ℕ → Option Held → Option Held → Type 0
JoinsHeld (Some u) (Some v) code w x =
    ((k : Held) × JoinsLimits u v k × AreFew u v × (w ≡ Some k) × (x ≡ None) × (code ≡ 0))
    ⊎ ((n m : ℕ) × CountsLimits u n × CountsLimits v m × (4 < n + m)
    × NoneJoined (Some u) (Some v) OutOfRange code w x)
    ⊎ (((kind_of u ≢ kind.Limits) ⊎ (kind_of v ≢ kind.Limits)) × NoneJoined (Some u) (Some v) WrongKind code w x)
JoinsHeld u v code w x = NoneJoined u v Empty code w x
