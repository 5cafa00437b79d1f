-- What the calls on a pace do.
use Rattle.std.specs.Prelude.{◌≡◌, ℕ, Bool, None, Result, Ok, Err}
use Rattle.std.specs.Global.{Global}
use Rattle.std_alloc.specs.declared.boxed.Box.{Box}
use Rattle.sched_limit_word.specs.View.{first_view}
use Rattle.sched_pace.specs.Held.{OfPace, Takes, Gives, Sees, Splits, NoSplit}
use Rattle.sched_pace.specs.Step.{Answer}
use Rattle.sched_pace.specs.declared.fault.SplitFault.TheVariants as fault
use Rattle.sched_pace.specs.declared.pace.Pace.{Pace as Terms}
use Rattle.sched_handle.specs.Held.{OtherKind}
use Rattle.sched_handle.specs.declared.held.Held.{Held}
use Rattle.sched_handle.specs.declared.held.Held.TheVariants.{Pace}
use Rattle.sched_handle.specs.declared.status.Status.{Status}
use Rattle.sched_handle.specs.declared.status.Status.TheVariants.{NoMemory, TooManyPasses}

-- a pace is made, with its first pass, or there is no memory
abbrev pub MakesPace : Terms → Result (Box Held Global) Status → Type 0
MakesPace p (Ok b) = (d : OfPace) × (b.value ≡ Pace d) × (d.limit.machine ≡ p) × (d.pass.has ≡ first_view 0)
    × (d.last ≡ None)
MakesPace p (Err s) = s ≡ NoMemory

-- a call on what a handle holds does this to its pace; of what is of another kind nothing changes
abbrev pub OnPaces : {A : Type 0} → (OfPace → Result A Status → OfPace → Type 0) → Held → Result A Status → Held →
    Type 0
OnPaces does (Pace d) r v = (e : OfPace) × (v ≡ Pace e) × does d r e
OnPaces does u r v = OtherKind u r v

-- a call is taken, or not
abbrev pub TakesPace : ℕ → ℕ → OfPace → Result Answer Status → OfPace → Type 0
TakesPace now cost d (Ok answer) e = Takes d now cost answer e
TakesPace now cost d (Err s) e = ⊥

-- the last take comes back, or not
abbrev pub GivesPace : OfPace → Result Bool Status → OfPace → Type 0
GivesPace d (Ok given) e = Gives d given e
GivesPace d (Err s) e = ⊥

abbrev pub SeesPace : ℕ → OfPace → Result ℕ Status → OfPace → Type 0
SeesPace now d (Ok at) e = Sees d now at e
SeesPace now d (Err s) e = ⊥

-- a new pass is split off, or none
abbrev pub SplitsPace : OfPace → Result (Box Held Global) Status → OfPace → Type 0
SplitsPace d (Ok b) e = (part : OfPace) × (b.value ≡ Pace part) × Splits d part e
SplitsPace d (Err NoMemory) e = NoSplit d fault.NoMemory e
SplitsPace d (Err TooManyPasses) e = NoSplit d fault.TooManyPasses e
SplitsPace d (Err _) e = ⊥
