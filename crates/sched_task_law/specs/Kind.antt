-- The kinds of task, and where they differ.
use Rattle.std.specs.Prelude.{Bool, true, false, not, Option, Some, None}
use Rattle.sched_effect.specs.declared.ran.Ran.{Ran}
use Rattle.sched_effect.specs.declared.ran.Ran.TheVariants.{Won, Lost}
use Rattle.sched_task.specs.declared.endings.How.{How}
use Rattle.sched_task.specs.declared.endings.How.TheVariants as how

-- Each says whether its journal is kept.
pub data Kind : Type 0 where
  -- tries again after each failure, with a ticket of the budget for each retry
  a_retry : Bool → Kind
  -- runs again after each success
  a_repeat : Bool → Kind

-- those whose journals are kept
abbrev pub retry : Kind
retry = a_retry true

abbrev pub repeat : Kind
repeat = a_repeat true

-- whether its journal is kept, which then has room for 65,536 events
abbrev pub keeps : Kind → Bool
keeps (a_retry kept) = kept
keeps (a_repeat kept) = kept

abbrev pub repeats : Kind → Bool
repeats (a_retry kept) = false
repeats (a_repeat kept) = true

-- whether each recurrence needs a ticket of the budget
abbrev pub draws : Kind → Bool
draws kind = not (repeats kind)

-- whether the run calls for a step of the schedule: of a retry a failure, of a repeat a success
abbrev pub calls : Kind → Ran → Bool
calls kind (Won code) = repeats kind
calls kind (Lost code) = not (repeats kind)

-- how a run that calls for no step ends the task
abbrev pub final : Kind → How
final (a_retry kept) = how.Won
final (a_repeat kept) = how.Failed

-- the task ended with its last run
abbrev pub is_final : Kind → Option How → Bool
is_final kind None = false
is_final kind (Some how.Won) = not (repeats kind)
is_final kind (Some how.ScheduleDone) = false
is_final kind (Some how.BudgetRefused) = false
is_final kind (Some how.DeadlinePassed) = false
is_final kind (Some how.Failed) = repeats kind
is_final kind (Some how.Cancelled) = false
is_final kind (Some (how.Broken fault)) = false
