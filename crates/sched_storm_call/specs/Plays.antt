-- What the calls that play a storm do and tell.
use Rattle.std.specs.Prelude.{◌≡◌, ◌⊎◌, ℕ, ◌<◌, ◌≤◌, List, ◌++◌, length, drop, map, Option, Some, None, Result}
use Rattle.std.specs.Prelude.{Ok, Err}
use Rattle.sched_plan.specs.Schedule.{Schedule}
use Rattle.sched_storm.specs.Arrivals.{AreArrivals}
use Rattle.sched_storm.specs.Clients.{plan_at}
use Rattle.sched_storm.specs.Report.{AddsUp}
use Rattle.sched_storm.specs.Storms.{ReportsOn}
use Rattle.sched_storm.specs.declared.clients.Plans.{Plans}
use Rattle.sched_storm.specs.declared.parameters.Parameters.{Parameters}
use Rattle.sched_storm_report.specs.declared.report.Report.{Report}
use Rattle.sched_handle.specs.Fills.{HasNoPolicy}
use Rattle.sched_handle.specs.declared.held.Held.{Held}
use Rattle.sched_handle.specs.declared.held.Held.TheVariants.{Policy}
use Rattle.sched_handle.specs.Status.{code_of}
use Rattle.sched_handle.specs.declared.status.Status.{Status}
use Rattle.sched_handle.specs.declared.status.Status.TheVariants.{Empty, WrongKind, NoMemory, NoRoom, OutOfRange}
use Rattle.sched_handle.specs.declared.status.Status.TheVariants.{WrongSize}
use Rattle.sched_storm_call.specs.Told.{IsGiven, IsOf, of_given, room_given, window_told, totals_told}
use Rattle.sched_storm_call.specs.declared.records.Policies.{Policies}
use Rattle.sched_storm_call.specs.declared.records.StormGiven.{StormGiven}
use Rattle.sched_storm_call.specs.declared.records.SizedStorm.{SizedStorm}
use Rattle.sched_storm_call.specs.declared.records.WindowTold.{WindowTold}
use Rattle.sched_storm_call.specs.declared.records.SizedTotals.{SizedTotals}

-- what C gives room for: windows, and totals
pub record Told : Type 0 where
  pub windows : List WindowTold
  pub totals : SizedTotals

-- the struct of a storm and that of totals have their sizes
pub record AreSized (storm totals : ℕ) : Type 0 where
  pub storm_size : storm ≡ 1176
  pub totals_size : totals ≡ 136

-- the storm is given, of requests that may come at these moments, with room for all its windows
pub record HasRoom (ms : List ℕ) (g : SizedStorm) (t : Told) : Type 0 where
  pub sized : AreSized g.size t.totals.size
  pub given : IsGiven g.storm
  pub arrivals : AreArrivals ms
  pub room : room_given g.storm ≤ length t.windows

-- the storm of these parameters is given, of requests of populations that have these plans, which come at these
-- moments, or by the rates where there are none; and its report, which is on the requests that it says
pub record IsStormOf (ms : List ℕ) (g : StormGiven) (plans : ℕ → Schedule) (r : Report) : Type 0 where
  pub parameters : Parameters
  pub are : IsOf g parameters
  pub reports : ReportsOn ms parameters plans (of_given g.of) r
  pub adds_up : g.of ≡ 0 → AddsUp ms parameters r

-- there is no memory for the plans, or none for what is made of them
abbrev pub IsShort : Result (ℕ → Schedule) Status → Type 0
IsShort (Ok plans) = Unit {0}
IsShort (Err s) = s ≡ NoMemory

-- What is played where these are the plans of the populations, or there are none for a reason: the storm, with a report
-- that adds up where it is on all requests, or none for this reason. Of several reasons it is the first.
abbrev pub Plays : List ℕ → SizedStorm → Told → Result (ℕ → Schedule) Status → Result Report Status → Type 0
Plays ms g t given (Ok report) =
    HasRoom ms g t × ((plans : ℕ → Schedule) × (given ≡ Ok plans) × IsStormOf ms g.storm plans report)
Plays ms g t given (Err WrongSize) = ¬ AreSized g.size t.totals.size
Plays ms g t given (Err OutOfRange) = AreSized g.size t.totals.size × ¬ (IsGiven g.storm × AreArrivals ms)
Plays ms g t given (Err NoRoom) =
    AreSized g.size t.totals.size × IsGiven g.storm × AreArrivals ms × (length t.windows < room_given g.storm)
Plays ms g t given (Err Empty) = HasRoom ms g t × (given ≡ Err Empty)
Plays ms g t given (Err WrongKind) = HasRoom ms g t × (given ≡ Err WrongKind)
Plays ms g t given (Err NoMemory) = HasRoom ms g t × IsShort given
Plays ms g t given (Err _) = ⊥

-- what C is told of that: where there is no room, how many windows there would be
abbrev pub Tells : SizedStorm → Told → Result Report Status → ℕ → Told → Type 0
Tells g old (Ok report) code new = (code ≡ 0) × (new ≡ record {
  windows = map window_told report.windows.items ++ drop (length report.windows.items) old.windows;
  totals = record old.totals { totals = totals_told report };
})
Tells g old (Err NoRoom) code new = (code ≡ code_of NoRoom) × (new ≡ record old {
  totals = record old.totals { totals = record old.totals.totals { windows = room_given g.storm } };
})
Tells g old (Err s) code new = (code ≡ code_of s) × (new ≡ old)

-- a storm of these plans is played and told
abbrev pub PlaysPlans : List ℕ → SizedStorm → Result (ℕ → Schedule) Status → Told → ℕ → Told → Type 0
PlaysPlans ms g given old code new = (r : Result Report Status) × Plays ms g old given r × Tells g old r code new

-- what the handles of the populations' policies hold
pub record PoliciesHeld : Type 0 where
  pub first : Option Held
  pub second : Option Held
  pub third : Option Held
  pub fourth : Option Held

abbrev pub held_by : Policies → PoliciesHeld
held_by ps = record {
  first = ps.first.held;
  second = ps.second.held;
  third = ps.third.held;
  fourth = ps.fourth.held;
}

-- a policy alone, which all populations have
abbrev pub alone : Option Held → PoliciesHeld
alone held = record { first = held; second = None; third = None; fourth = None }

-- the plan of a population beside the first one: that of the policy that is held, or the first one's where none is
abbrev pub IsPlanOf : Option Held → Schedule → Schedule → Type 0
IsPlanOf None first plan = plan ≡ first
IsPlanOf (Some u) first plan = u ≡ Policy plan

-- there is none for it, for this reason
abbrev pub HasNoPlan : Option Held → Status → Type 0
HasNoPlan None s = s ≡ NoMemory
HasNoPlan (Some u) s = HasNoPolicy (Some u) s

pub record ArePlansOf (hs : PoliciesHeld) (ps : Plans) : Type 0 where
  pub first : hs.first ≡ Some (Policy ps.first)
  pub second : IsPlanOf hs.second ps.first ps.second
  pub third : IsPlanOf hs.third ps.first ps.third
  pub fourth : IsPlanOf hs.fourth ps.first ps.fourth

-- the first one has a policy, and a further one no plan, for this reason
pub record LackOne (hs : PoliciesHeld) (s : Status) : Type 0 where
  pub plan : Schedule
  pub first : hs.first ≡ Some (Policy plan)
  pub lacks : HasNoPlan hs.second s ⊎ (HasNoPlan hs.third s ⊎ HasNoPlan hs.fourth s)

-- each population has its plan
abbrev pub HavePlans : PoliciesHeld → Result (ℕ → Schedule) Status → Type 0
HavePlans hs (Ok plans) = (ps : Plans) × ArePlansOf hs ps × (plans ≡ (λ k. plan_at k ps))
HavePlans hs (Err s) = HasNoPolicy hs.first s ⊎ LackOne hs s

-- a storm is played and told, of requests of populations of which each has its policy, which come at these moments, or
-- by the rates where there are none
abbrev pub PlaysStorm : List ℕ → SizedStorm → PoliciesHeld → Told → ℕ → Told → Type 0
PlaysStorm ms g hs old code new =
    (given : Result (ℕ → Schedule) Status) × HavePlans hs given × PlaysPlans ms g given old code new

-- what the code has of the plans
abbrev pub plans_of : Result Plans Status → Result (ℕ → Schedule) Status
plans_of (Ok ps) = Ok (λ k. plan_at k ps)
plans_of (Err s) = Err s

-- why a storm that is given, with room, may have no plans
abbrev pub IsReason : Status → Type 0
IsReason Empty = Unit {0}
IsReason WrongKind = Unit {0}
IsReason NoMemory = Unit {0}
IsReason _ = ⊥
