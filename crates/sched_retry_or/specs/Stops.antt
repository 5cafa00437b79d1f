-- How a retry goes on to its fallback.
use Rattle.std.specs.Prelude.{if◌then◌else◌, Option, Some, None, Ok, Err}
use Rattle.sched_task.specs.declared.endings.How.{How}
use Rattle.sched_task_law.specs.Law.{is_stop}
use Rattle.sched_retry.specs.declared.endings.Ending.{Ending}
use Rattle.sched_retry.specs.declared.endings.Ending.TheVariants as ending
use Rattle.sched_retry_or.specs.declared.endings.RetryOrEnding.{RetryOrEnding}
use Rattle.sched_retry_or.specs.declared.endings.RetryOrEnding.TheVariants.{Won, DeadlinePassed, Cancelled, Broken}

-- how it is over where the retry beneath is over so: where that stops, the fallback is asked
abbrev pub unless_stop : Option How → Option How
unless_stop over = if is_stop over then None else over

-- the endings that a retry has
abbrev pub EndsRetry : {I F : Type 0} → Ending I F → Type 0
EndsRetry (ending.Failed fault) = ⊥
EndsRetry (ending.ScheduleDone (Ok item)) = ⊥
EndsRetry _ = Unit {0}

-- what the ending of the retry beneath leaves: the failure at which that stopped, or an ending
abbrev pub or_stopped : {I F : Type 0} → Option (Ending I F) → Option F × Option (RetryOrEnding I F)
or_stopped None = (None, None)
or_stopped (Some (ending.Won item)) = (None, Some (Won item))
or_stopped (Some (ending.Failed fault)) = (None, None)
or_stopped (Some (ending.ScheduleDone (Ok item))) = (None, None)
or_stopped (Some (ending.ScheduleDone (Err fault))) = (Some fault, None)
or_stopped (Some (ending.BudgetRefused fault)) = (Some fault, None)
or_stopped (Some ending.DeadlinePassed) = (None, Some DeadlinePassed)
or_stopped (Some ending.Cancelled) = (None, Some Cancelled)
or_stopped (Some (ending.Broken fault)) = (None, Some (Broken fault))
