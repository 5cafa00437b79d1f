-- What a run is to a machine: it calls for a step of the schedule, or ends it.
use Rattle.std.specs.Prelude.{◌≡◌, ℕ, Bool, true, false, not, Option, Some, None, Result, Ok, Err}
use Rattle.sched_effect.specs.Runs.{code_of}
use Rattle.sched_effect.specs.declared.ran.Ran.{Ran}
use Rattle.sched_effect.specs.declared.ran.Ran.TheVariants.{Won, Lost}
use Rattle.sched_task.specs.declared.endings.How.{How}
use Rattle.sched_task.specs.declared.endings.How.TheVariants as how
use Rattle.sched_task_law.specs.Kind.{Kind, calls, final}

-- a run calls for a step with its code, or ends the task
abbrev pub Calls : Kind → Ran → Result ℕ How → Type 0
Calls kind ran (Ok code) = (calls kind ran ≡ true) × (code ≡ code_of ran)
Calls kind ran (Err how) = (calls kind ran ≡ false) × (how ≡ final kind)

-- how a run that calls for a step may end what it is of, a repeat or a retry: only what draws is refused a ticket
abbrev pub MayStop : Bool → Option How → Type 0
MayStop repeats None = Unit {0}
MayStop repeats (Some how.ScheduleDone) = Unit {0}
MayStop repeats (Some how.BudgetRefused) = not repeats ≡ true
MayStop repeats (Some (how.Broken fault)) = Unit {0}
MayStop repeats (Some how) = ⊥

-- how a run may end it: a success ends a retry, and a failure a repeat
abbrev pub EndsAs : Bool → Ran → Option How → Type 0
EndsAs false (Won code) over = over ≡ Some how.Won
EndsAs false (Lost code) over = MayStop false over
EndsAs true (Won code) over = MayStop true over
EndsAs true (Lost code) over = over ≡ Some how.Failed
