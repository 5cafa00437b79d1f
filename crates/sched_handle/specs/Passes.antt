-- What the calls on a pass do.
use Rattle.std.specs.Prelude.{◌≡◌, ℕ, ◌/◌, ◌<◌, ◌≤◌, Bool, false, Option, Some, None, Result, Ok, Err}
use Rattle.std.specs.Global.{Global}
use Rattle.std_alloc.specs.declared.boxed.Box.{Box}
use Rattle.sched_time.specs.declared.numbers.TheConstants.{FAR}
use Rattle.sched_ticket.specs.View.{parted_terms, first_view}
use Rattle.sched_ticket.specs.Calls.{RefusesLimit}
use Rattle.sched_ticket_quota.specs.View as quota
use Rattle.sched_ticket_quota.specs.Held.{AreTerms}
use Rattle.sched_ticket_quota.specs.declared.view.Terms.{Terms}
use Rattle.sched_ticket_draws.specs.Budgets.{OfBudget}
use Rattle.sched_ticket_draws.specs.Quotas.{OfQuota}
use Rattle.sched_ticket_draws.specs.Drawing.{granted_by}
use Rattle.sched_ticket_draws.specs.Passes.{are_like, OfOne, Joined, IsTotal, NoTotal}
use Rattle.sched_ticket_draws.specs.declared.drawing.Drawing.{Drawing}
use Rattle.sched_ticket_draws.specs.declared.drawing.Drawing.TheVariants.{Budget, Quota, Unlimited}
use Rattle.sched_handle.specs.Drawing.{Parted, NoSplit}
use Rattle.sched_handle.specs.Held.{IsOther, OtherKind}
use Rattle.sched_handle.specs.Status.{By, of_ticket}
use Rattle.sched_handle.specs.declared.held.Held.{Held}
use Rattle.sched_handle.specs.declared.held.Held.TheVariants.{Room, Pass, Retry}
use Rattle.sched_handle.specs.declared.held.Kind.TheVariants as kind
use Rattle.sched_handle.specs.declared.status.Status.{Status}
use Rattle.sched_handle.specs.declared.status.Status.TheVariants.{NoMemory, TooLarge, ReserveTooLarge, ShareTooLarge}
use Rattle.sched_handle.specs.declared.status.Status.TheVariants.{PeriodTooShort, PassesOut}

-- a budget of this limit is made, with its first pass, or none for this reason
abbrev pub MakesBudget : ℕ → Bool → Result (Box Held Global) Status → Type 0
MakesBudget limit rises (Ok b) =
    (s : OfBudget) × (b.value ≡ Pass (Budget s)) × (s.budget.terms ≡ parted_terms limit rises)
    × (s.pass.has ≡ first_view (parted_terms limit rises))
MakesBudget limit rises (Err s) = By of_ticket (RefusesLimit limit) s

abbrev pub terms_of : ℕ → ℕ → ℕ → Terms
terms_of reserve share period = record { reserve = reserve; share = share; period = period }

-- a quota of these terms is not made for this reason
abbrev pub NoQuota : Terms → Status → Type 0
NoQuota k ReserveTooLarge = 4294967296 < k.reserve
NoQuota k ShareTooLarge = (k.reserve ≤ 4294967296) × (1000000 < k.share)
NoQuota k PeriodTooShort = (k.reserve ≤ 4294967296) × (k.share ≤ 1000000) × (k.period < 100)
NoQuota k TooLarge = (k.reserve ≤ 4294967296) × (k.share ≤ 1000000) × (FAR < k.period)
NoQuota k NoMemory = AreTerms k × (k.period ≤ FAR)
NoQuota k _ = ⊥

-- a quota of these terms, that carries or does not, is made at this moment, with its first pass, or none for this
-- reason
abbrev pub MakesQuota : ℕ → Terms → Bool → Result (Box Held Global) Status → Type 0
MakesQuota now k c (Ok b) = (s : OfQuota) × (b.value ≡ Pass (Quota s)) × (s.quota.terms ≡ k) × (s.quota.carries ≡ c)
    × (s.quota.start ≡ now / k.period) × (s.pass.has ≡ quota.first_of_kind c k) × (s.pass.latest ≡ None)
MakesQuota now k c (Err s) = NoQuota k s

-- a pass that draws on nothing is made, or there is no memory
abbrev pub MakesUnlimited : Result (Box Held Global) Status → Type 0
MakesUnlimited (Ok b) = b.value ≡ Pass (Unlimited 0)
MakesUnlimited (Err s) = s ≡ NoMemory

-- a call on what a handle holds does this to its pass; of what is of another kind nothing changes
abbrev pub OnPass : {A : Type 0} → (Drawing → Result A Status → Drawing → Type 0) → Held → Result A Status → Held →
    Type 0
OnPass does (Pass d) r v = (e : Drawing) × (v ≡ Pass e) × does d r e
OnPass does u r v = OtherKind u r v

-- a new pass is split off, or none
abbrev pub Splits : Drawing → Result (Box Held Global) Status → Drawing → Type 0
Splits d (Ok b) e = (part : Drawing) × (b.value ≡ Pass part) × Parted d part e
Splits d (Err s) e = NoSplit d s e

-- how many tickets a pass has
abbrev pub CountsTickets : Held → Result ℕ Status → Type 0
CountsTickets u (Ok n) = (d : Drawing) × (u ≡ Pass d) × (n ≡ granted_by d)
CountsTickets u (Err s) = IsOther kind.Pass u s

-- the budget or the quota of a pass is closed, and room is left of it; or it is not, and another pass is out
abbrev pub PassCloses : Drawing → Result ℕ Status → Held → Type 0
PassCloses d (Ok n) v = (v ≡ Room) × IsTotal d n
PassCloses d (Err s) v = (s ≡ PassesOut) × (e : Drawing) × (v ≡ Pass e) × NoTotal d e

abbrev pub Closes : Held → Result ℕ Status → Held → Type 0
Closes (Pass d) r v = PassCloses d r v
Closes u r v = OtherKind u r v

-- what a pass or a retry draws by
abbrev pub drawing_of : Held → Option Drawing
drawing_of (Pass d) = Some d
drawing_of (Retry m) = Some m.drawing
drawing_of u = None

-- both draw, and on the same kind of thing
abbrev pub draw_alike : Option Drawing → Option Drawing → Bool
draw_alike (Some d) (Some e) = are_like d e
draw_alike d e = false

-- of two budgets or quotas it is the same one
abbrev pub DrawOnOne : Option Drawing → Option Drawing → Type 0
DrawOnOne (Some d) (Some e) = OfOne d e
DrawOnOne d e = Unit {0}

-- a pass has what it had and what this other one, or a retry, drew by
abbrev pub Joins : Option Drawing → Option Drawing → Held → Type 0
Joins (Some d) (Some e) v = (x : Drawing) × (v ≡ Pass x) × Joined d e x
Joins d e v = ⊥

-- handles of what draws on one budget or quota, where they draw on two of a kind
abbrev pub AreOfOne : Option Held → Option Held → Type 0
AreOfOne u v = (x y : Held) → u ≡ Some x → v ≡ Some y → DrawOnOne (drawing_of x) (drawing_of y)
