-- What a retry with a fallback hands out once it is over.
use Rattle.std.specs.Prelude.{◌≡◌, ℕ, true, List, Option, Some}
use Rattle.sched_effect.specs.Runs.{ran_by}
use Rattle.sched_effect.specs.declared.ran.Ran.{Ran}
use Rattle.sched_effect.specs.declared.ran.Ran.TheVariants as ran
use Rattle.sched_task.specs.declared.endings.How.{How}
use Rattle.sched_task.specs.declared.endings.How.TheVariants as how
use Rattle.sched_task_law.specs.Lists.{last_element}
use Rattle.sched_task_law.specs.Law.{is_stop}
use Rattle.sched_retry_or.specs.declared.endings.RetryOrEnding.{RetryOrEnding}
use Rattle.sched_retry_or.specs.declared.endings.RetryOrEnding.TheVariants.{Won, Fallen, DeadlinePassed, Cancelled}
use Rattle.sched_retry_or.specs.declared.endings.RetryOrEnding.TheVariants.{Broken}

module _ {I F : Type 0} (item_code : I → ℕ) (fault_code : F → ℕ) where
  -- an ending says how the task is over; a success has the code of the last run, and what the fallback gave is its
  -- answer
  abbrev pub RetryOrFits : Option How → List Ran → Option Ran → RetryOrEnding I F → Type 0
  RetryOrFits over runs answered (Won item) =
      (over ≡ Some how.Won) × (last_element runs ≡ Some (ran.Won (item_code item)))
  RetryOrFits over runs answered (Fallen run) =
      (is_stop over ≡ true) × (answered ≡ Some (ran_by item_code fault_code run))
  RetryOrFits over runs answered DeadlinePassed = over ≡ Some how.DeadlinePassed
  RetryOrFits over runs answered Cancelled = over ≡ Some how.Cancelled
  RetryOrFits over runs answered (Broken fault) = over ≡ Some (how.Broken fault)
