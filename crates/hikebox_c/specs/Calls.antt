-- What a call does, tells and leaves, by what its handles held before.
use Rattle.std.specs.Prelude.{◌≡◌, ◌≢◌, ◌⊎◌, ℕ, Option, Some, None, is_some, MatchBool, Result, Ok, Err}
use Rattle.std.specs.Global.{Global}
use Rattle.std_alloc.specs.declared.boxed.Box.{Box}
use Rattle.sched_handle.specs.Fills.{Fills}
use Rattle.sched_handle.specs.Held.{kind_of}
use Rattle.sched_handle.specs.Status.{code_of}
use Rattle.sched_handle.specs.declared.held.Held.{Held}
use Rattle.sched_handle.specs.declared.held.Kind.{Kind}
use Rattle.sched_handle.specs.declared.status.Status.{Status}
use Rattle.sched_handle.specs.declared.status.Status.TheVariants.{Empty, WrongKind, Full}

-- an answer stands in its place, and the status is 0; a reason is told by its number, and the place is as it was
abbrev pub Tells : {A : Type 0} → ℕ → A → A → Result A Status → Type 0
Tells code old new (Ok x) = (code ≡ 0) × (new ≡ x)
Tells code old new (Err s) = (code ≡ code_of s) × (new ≡ old)

-- what was made is put into a handle, or the reason is told by its number
abbrev pub Puts : Option Held → ℕ → Option Held → Result (Box Held Global) Status → Type 0
Puts u code v r = Fills r u code v

-- what a handle holds stays as it is
abbrev pub Kept : {A : Type 0} → (Held → Result A Status → Type 0) → Held → Result A Status → Held → Type 0
Kept does u r v = (v ≡ u) × does u r

-- this is done with what a handle holds, and told; an empty handle is refused
abbrev pub OnHeld : {A : Type 0} → (Held → Result A Status → Held → Type 0) → Option Held → Option Held →
    (Result A Status → Type 0) → Type 0
OnHeld does None w tells = (w ≡ None) × tells (Err Empty)
OnHeld {A} does (Some u) w tells = (r : Result A Status) × (v : Held) × (w ≡ Some v) × does u r v × tells r

-- this comes of a call, and is told
abbrev pub Comes : {A : Type 0} → (Result A Status → Type 0) → (Result A Status → Type 0) → Type 0
Comes {A} does tells = (r : Result A Status) × does r × tells r

-- something is made for a handle, which is refused where it is full
abbrev pub Makes : (Result (Box Held Global) Status → Type 0) → Option Held → ℕ → Option Held → Type 0
Makes made u code v = MatchBool (is_some u)
    (Puts u code v (Err Full))
    ((r : Result (Box Held Global) Status) × made r × Puts u code v r)

-- the same with what another handle holds
abbrev pub MakesWith : (Held → Result (Box Held Global) Status → Held → Type 0) → Option Held → Option Held →
    Option Held → ℕ → Option Held → Type 0
MakesWith does source left u code v = MatchBool (is_some u)
    ((left ≡ source) × Puts u code v (Err Full))
    (OnHeld does source left (Puts u code v))

-- this is done with what a handle holds of this kind, or there is no such thing, for this reason
abbrev pub OfKind : Kind → Option Held → (Held → Type 0) → (Status → Type 0) → Type 0
OfKind k None does refuses = refuses Empty
OfKind k (Some u) does refuses = ((kind_of u ≡ k) × does u) ⊎ ((kind_of u ≢ k) × refuses WrongKind)
