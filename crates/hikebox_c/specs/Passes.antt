-- What the calls on passes do with one handle that may be left empty, and with two.
use Rattle.std.specs.Prelude.{◌≡◌, ℕ, Option, Some, None, MatchBool, Result, Err}
use Rattle.sched_handle.specs.Passes.{Closes, Joins, drawing_of, draw_alike}
use Rattle.sched_handle.specs.Status.{code_of}
use Rattle.sched_handle.specs.declared.held.Held.{Held}
use Rattle.sched_handle.specs.declared.held.Held.TheVariants.{Room}
use Rattle.sched_handle.specs.declared.held.Kind.{Kind}
use Rattle.sched_handle.specs.declared.held.Kind.TheVariants as kind
use Rattle.sched_handle.specs.declared.status.Status.{Status}
use Rattle.sched_handle.specs.declared.status.Status.TheVariants.{Empty, DrawsElsewhere}
use Rattle.hikebox_c.specs.Calls.{OfKind}

-- what a handle holds of this: nothing where it is only room
abbrev pub held_of : Held → Option Held
held_of Room = None
held_of v = Some v

-- what a pass draws on is closed, and then its handle is empty, or not; an empty handle is refused
abbrev pub ClosesHeld : Option Held → Option Held → (Result ℕ Status → Type 0) → Type 0
ClosesHeld None w tells = (w ≡ None) × tells (Err Empty)
ClosesHeld (Some u) w tells = (r : Result ℕ Status) × (v : Held) × (w ≡ held_of v) × Closes u r v × tells r

-- nothing changes in two handles, and the reason is told by its number
abbrev pub NoneJoined : Option Held → Option Held → ℕ → Option Held → Option Held → Status → Type 0
NoneJoined u v code rest w s = (rest ≡ u) × (w ≡ v) × (code ≡ code_of s)

-- the pass has what it had and what the other drew by, and the other handle is empty
abbrev pub BothJoined : Held → Held → ℕ → Option Held → Option Held → Type 0
BothJoined x y code rest w =
    (z : Held) × (w ≡ Some z) × Joins (drawing_of y) (drawing_of x) z × (rest ≡ None) × (code ≡ 0)

-- what a handle of this kind draws by is joined into a pass, where both are there, and draw on the same kind of thing
abbrev pub JoinsHeld : Kind → Option Held → Option Held → ℕ → Option Held → Option Held → Type 0
JoinsHeld k u v code rest w = OfKind k u
    (λ x. OfKind kind.Pass v
    (λ y. MatchBool (draw_alike (drawing_of y) (drawing_of x))
    (BothJoined x y code rest w) (NoneJoined u v code rest w DrawsElsewhere))
    (NoneJoined u v code rest w))
    (NoneJoined u v code rest w)
