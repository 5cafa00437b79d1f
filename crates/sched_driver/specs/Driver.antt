-- What is true of every driver, and when `next` refuses.
use Rattle.std.specs.Prelude.{◌≡◌, ℕ, ◌<◌, ◌≤◌, List, length}
use Rattle.sched_plan.specs.History.{last_moment}
use Rattle.sched_plan.specs.declared.history.Event.{Event}
use Rattle.sched_driver_tree.specs.Standing.{TreeStanding, TreeStandsFor}
use Rattle.sched_driver_tree.specs.declared.trees.StepFault.{StepFault}
use Rattle.sched_driver_tree.specs.declared.trees.StepFault.TheVariants.{Backwards as StepBackwards}
use Rattle.sched_driver_tree.specs.declared.trees.StepFault.TheVariants.{NoMemory as StepNoMemory}
use Rattle.sched_driver.specs.Driven.{Driven}
use Rattle.sched_driver.specs.declared.drivers.DriveFault.{DriveFault}
use Rattle.sched_driver.specs.declared.drivers.DriveFault.TheVariants.{Backwards, JournalFull, NoMemory}

-- What is kept beside the journal stands for it, whose moments never fall.
pub record KeepsJournal (stepper : TreeStanding) (journal : List Event) : Type 0 where
  pub stands : TreeStandsFor stepper journal
  pub few : length journal ≤ 65536

-- there is room for one more event
abbrev pub HasRoom : Driven → ℕ → Type 0
HasRoom d now = (last_moment d.journal ≤ now) × (length d.journal < 65536)

-- Each refusal comes only in its own case, tested in this order: a moment before that of the journal's last event, then
-- a full journal, then a growth that was refused.
abbrev pub RefusesEvent : Driven → ℕ → DriveFault → Type 0
RefusesEvent d now (Backwards floor) = (floor ≡ last_moment d.journal) × (now < floor)
RefusesEvent d now JournalFull = (last_moment d.journal ≤ now) × (length d.journal ≡ 65536)
RefusesEvent d now NoMemory = HasRoom d now

-- the refusal of a step, as a driver gives it
abbrev pub drive_fault : StepFault → DriveFault
drive_fault (StepBackwards floor) = Backwards floor
drive_fault StepNoMemory = NoMemory
