-- The failures that a request's driver is given, and what the drivers of all requests stand for.
use Rattle.std.specs.Prelude.{◌≡◌, ℕ, ◌≤◌, List, ◌∷◌, [], ◌++◌, Option, Some, None, IfSome, slice_set}
use Rattle.std.specs.Global.{Global}
use Rattle.std_alloc.specs.declared.boxed.Box.{Box}
use Rattle.sched_storm_report.specs.declared.moments.Failure.{Failure}
use Rattle.sched_storm_report.specs.declared.moments.Failure.TheVariants.{Refused, Shed, Late}
use Rattle.sched_time.specs.Decision.{start_of}
use Rattle.sched_plan.specs.Datum.{num}
use Rattle.sched_plan.specs.Answer.{answer}
use Rattle.sched_plan.specs.History.{last_moment}
use Rattle.sched_plan.specs.Schedule.{Schedule}
use Rattle.sched_plan.specs.declared.history.Event.{Event}
use Rattle.sched_driver_stepper.specs.Standing.{Standing, StandsFor}

-- the input that a policy is given of a call that failed so
abbrev pub input_of : Failure → ℕ
input_of Refused = 1
input_of Shed = 2
input_of Late = 3

-- the history with a failure at a moment, with these words and this input
abbrev pub with_failure : List Event → ℕ → List ℕ → ℕ → List Event
with_failure h t words input = h ++ record { now = t; words = words; input = num input } ∷ []

-- what a request's driver stands for; a request of which no call has failed has none
abbrev pub DriverStands : Schedule → Option (Box Standing Global) → List Event → Type 0
DriverStands plan None h = h ≡ []
DriverStands plan (Some driver) h = (driver.value.plan ≡ plan) × StandsFor driver.value h

-- a driver may be given a failure at a moment: none that it was given comes after it
pub record MayFail (plan : Schedule) (slot : Option (Box Standing Global)) (at : ℕ) : Type 0 where
  pub history : List Event
  pub stands : DriverStands plan slot history
  pub order : last_moment history ≤ at

-- What a request's driver answers to a failure, and what it stands for then: it plans what its plan's definition plans.
pub record IsAnswered (plan : Schedule) (slots : List (Option (Box Standing Global))) (request at : ℕ)
    (h : List Event) (start : Option ℕ) (new : List (Option (Box Standing Global))) : Type 0 where
  pub driver : Box Standing Global
  pub are : new ≡ slice_set slots request (Some driver)
  pub stands : DriverStands plan (Some driver) h
  pub planned : start ≡ start_of (answer plan h).decision
  pub later : IfSome start (λ s. at ≤ s)
