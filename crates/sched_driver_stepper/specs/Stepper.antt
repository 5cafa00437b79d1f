-- What is true of every stepper, and what a replay that is refused leaves.
use Rattle.std.specs.Prelude.{◌≡◌, ℕ, ◌≤◌, List, ◌∷◌, ◌++◌, Option}
use Rattle.sched_time.specs.declared.numbers.TheConstants.{FAR}
use Rattle.sched_plan.specs.Schedule.{Schedule}
use Rattle.sched_plan.specs.declared.history.Event.{Event}
use Rattle.sched_driver_tree.specs.declared.trees.StepFault.{StepFault}
use Rattle.sched_driver_tree.specs.Stepper.{RefusesStep}
use Rattle.sched_driver_stepper.specs.Standing.{Standing, StandsFor}
use Rattle.sched_driver_stepper.specs.Kept.{KeptFits, standing_of}
use Rattle.sched_driver_stepper.specs.declared.kept.Kept.{Kept}

-- It stands for some history, and what it keeps may be stepped from the last moment on.
pub record IsStepper (plan : Schedule) (kept : Kept) (start : Option ℕ) (floor : ℕ) : Type 0 where
  pub history : List Event
  pub stands : StandsFor (standing_of plan kept start floor) history
  pub fits_on : (later : ℕ) → floor ≤ later → KeptFits plan kept later
  pub shape : KeptFits plan kept FAR

-- Events that are played end at the first that is refused: it stands for those before it, which came after `h`.
pub record EndsEarly (h events : List Event) (fault : StepFault) (new : Standing) : Type 0 where
  pub played : List Event
  pub refused : Event
  pub rest : List Event
  pub are : events ≡ played ++ refused ∷ rest
  pub stands : StandsFor new (h ++ played)
  pub why : RefusesStep new.floor refused.now fault
