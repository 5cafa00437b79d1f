-- The terms of a pace, as C gives them, and what its calls tell.
use Rattle.std.specs.Prelude.{◌≡◌, ◌⊎◌, ℕ, ◌<◌, ◌≤◌, Result, Ok, Err}
use Rattle.std.specs.Global.{Global}
use Rattle.std_alloc.specs.declared.boxed.Box.{Box}
use Rattle.sched_pace.specs.Step.{Answer}
use Rattle.sched_pace.specs.declared.fault.TakeFault.{TakeFault}
use Rattle.sched_pace.specs.declared.fault.TakeFault.TheVariants.{TooSoon, NoCost, RacesLost}
use Rattle.sched_pace.specs.declared.pace.Pace.{Pace}
use Rattle.sched_handle.specs.Paces.{MakesPace}
use Rattle.sched_handle.specs.Status.{code_of}
use Rattle.sched_handle.specs.declared.held.Held.{Held}
use Rattle.sched_handle.specs.declared.status.Status.{Status}
use Rattle.sched_handle.specs.declared.status.Status.TheVariants as status

-- there is such a pace
pub record IsInRange (each burst longest : ℕ) : Type 0 where
  pub each_some : 0 < each
  pub each_fits : each ≤ 1099511627776
  pub burst_some : 0 < burst
  pub burst_fits : burst ≤ 1048576
  pub longest_fits : longest ≤ 137438953472

pub record IsPaceOf (each burst longest : ℕ) (p : Pace) : Type 0 where
  pub each_is : p.each ≡ each
  pub burst_is : p.burst ≡ burst
  pub longest_is : p.longest ≡ longest

-- a pace is made, or there is no memory; or there is no such pace
abbrev pub PaceMade : ℕ → ℕ → ℕ → Result (Box Held Global) Status → Type 0
PaceMade each burst longest r = ((p : Pace) × IsPaceOf each burst longest p × MakesPace p r)
    ⊎ ((r ≡ Err status.OutOfRange) × (IsInRange each burst longest → ⊥))

-- a take is told the moment at which it may begin, or that at which it would be granted
abbrev pub TellsFault : ℕ → ℕ → ℕ → TakeFault → Type 0
TellsFault code old new (TooSoon again) = (code ≡ code_of status.TooSoon) × (new ≡ again)
TellsFault code old new NoCost = (code ≡ code_of status.OutOfRange) × (new ≡ old)
TellsFault code old new RacesLost = (code ≡ code_of status.RacesLost) × (new ≡ old)

abbrev pub TellsTake : ℕ → ℕ → ℕ → Answer → Type 0
TellsTake code old new (Ok at) = (code ≡ 0) × (new ≡ at)
TellsTake code old new (Err fault) = TellsFault code old new fault

abbrev pub TellsTaken : ℕ → ℕ → ℕ → Result Answer Status → Type 0
TellsTaken code old new (Ok r) = TellsTake code old new r
TellsTaken code old new (Err s) = (code ≡ code_of s) × (new ≡ old)
