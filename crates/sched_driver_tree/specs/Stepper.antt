-- What is true of every stepper, what its steps give, and when they are refused.
use Rattle.std.specs.Prelude.{◌≡◌, ℕ, ◌<◌, ◌≤◌, List, IsTrue}
use Rattle.sched_time.specs.declared.numbers.TheConstants.{FAR}
use Rattle.sched_time.specs.declared.starts.Decision.{Decision}
use Rattle.sched_plan.specs.Schedule.{Schedule}
use Rattle.sched_plan.specs.Answer.{answer}
use Rattle.sched_plan.specs.declared.history.Event.{Event}
use Rattle.sched_step.specs.Progress.{fits}
use Rattle.sched_driver_tree.specs.Standing.{TreeStanding, TreeStandsFor}
use Rattle.sched_driver_tree.specs.declared.trees.StepFault.{StepFault}
use Rattle.sched_driver_tree.specs.declared.trees.StepFault.TheVariants.{Backwards, NoMemory}

-- It stands for some history, and its state fits the plan from the last moment on.
pub record IsTreeStepper (v : TreeStanding) : Type 0 where
  pub history : List Event
  pub stands : TreeStandsFor v history
  pub fits_on : (later : ℕ) → v.floor ≤ later → IsTrue (fits v.plan v.state later)
  pub shape : IsTrue (fits v.plan v.state FAR)

-- What a step gives where this is the history with the step's event: what is kept then stands for that.
pub record StepGives {V : Type 0} (stands_for : V → List Event → Type 0) (plan : Schedule) (h : List Event)
    (decision : Decision) (new : V) : Type 0 where
  pub stands : stands_for new h
  pub decided : decision ≡ (answer plan h).decision

-- Each refusal comes only in its own case: a moment before that of the last event, then a growth that was refused.
abbrev pub RefusesStep : ℕ → ℕ → StepFault → Type 0
RefusesStep last now (Backwards floor) = (floor ≡ last) × (now < floor)
RefusesStep last now NoMemory = last ≤ now
