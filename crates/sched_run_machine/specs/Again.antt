-- A retry that begins again.
use Rattle.std.specs.Prelude.{◌≡◌, ℕ, false, [], Option}
use Rattle.sched_plan.specs.Schedule.{Schedule}
use Rattle.sched_driver_stepper.specs.Standing.{Standing, standing_after}
use Rattle.sched_task_law.specs.Kind.{a_retry}
use Rattle.sched_ticket_draws.specs.Grants.{Grants}
use Rattle.sched_run_machine.specs.Drives.{Until, by_stepper, by_until}
use Rattle.sched_run_machine.specs.Machine.{Machine, begins, unbegun, Cancels, IsMachineOf}

-- the driver of this plan before its first step, with this deadline
abbrev pub unstepped_until : Schedule → Option ℕ → Until Standing
unstepped_until plan deadline = record { driver = standing_after plan []; deadline = deadline }

-- It is cancelled where it is not over. It is then one of the same plan that has not begun, with this deadline, and
-- draws by what it drew by: the retry that has done nothing yet is among those that it may stand for.
pub record BeginsAgain {D : Type 0} (grants : Grants D) (deadline : Option ℕ)
    (m n : Machine (Until Standing) D) : Type 0 where
  pub cancelled : Machine (Until Standing) D
  pub cancels : Cancels grants m cancelled
  pub begins_so : n ≡ begins grants (unstepped_until m.driver.driver.plan deadline) cancelled.drawing
  pub stands : IsMachineOf (by_until by_stepper) (a_retry false) grants n
      (unbegun grants m.driver.driver.plan deadline cancelled.drawing)
