-- What a handle holds, and which kind of thing it is.
use Rattle.std.specs.Prelude.{◌≡◌, ◌≢◌, Result, Err}
use Rattle.sched_handle.specs.declared.held.Held.{Held}
use Rattle.sched_handle.specs.declared.held.Held.TheVariants.{Room, Policy, Pass, Retry, Leased, Limits, Pace}
use Rattle.sched_handle.specs.declared.held.Kind.{Kind}
use Rattle.sched_handle.specs.declared.held.Kind.TheVariants as kind
use Rattle.sched_handle.specs.declared.status.Status.{Status}
use Rattle.sched_handle.specs.declared.status.Status.TheVariants.{WrongKind, NoMemory}

abbrev pub kind_of : Held → Kind
kind_of Room = kind.Room
kind_of (Policy s) = kind.Policy
kind_of (Pass s) = kind.Pass
kind_of (Retry r) = kind.Retry
kind_of (Leased l) = kind.Leased
kind_of (Limits l) = kind.Limits
kind_of (Pace d) = kind.Pace

-- a call that asks for this kind is refused for this reason
abbrev pub IsOther : Kind → Held → Status → Type 0
IsOther k held s = (s ≡ WrongKind) × (kind_of held ≢ k)

-- of what is of another kind nothing changes
abbrev pub OtherKind : {A : Type 0} → Held → Result A Status → Held → Type 0
OtherKind u r v = (r ≡ Err WrongKind) × (v ≡ u)

-- a call that asks for this kind, and for memory, is refused
abbrev pub Wants : Kind → Held → Status → Type 0
Wants k held WrongKind = kind_of held ≢ k
Wants k held NoMemory = kind_of held ≡ k
Wants k held _ = ⊥
