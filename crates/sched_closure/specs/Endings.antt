-- How calls of a closure end, and what their endings hand out.
use Rattle.std.specs.Prelude.{◌≡◌, ℕ, Bool, true, false, not, List, Option, Some, None, Result, Ok, Err}
use Rattle.sched_effect.specs.Runs.{ran_by}
use Rattle.sched_effect.specs.declared.ran.Ran.{Ran}
use Rattle.sched_effect.specs.declared.ran.Ran.TheVariants.{Won, Lost}
use Rattle.sched_task.specs.declared.endings.How.{How}
use Rattle.sched_task.specs.declared.endings.How.TheVariants as how
use Rattle.sched_task_law.specs.Lists.{last_element}
use Rattle.sched_closure.specs.declared.endings.CallEnding.{CallEnding}
use Rattle.sched_closure.specs.declared.endings.CallEnding.TheVariants as call
use Rattle.sched_closure.specs.declared.endings.RepeatCallEnding.{RepeatCallEnding}
use Rattle.sched_closure.specs.declared.endings.RepeatCallEnding.TheVariants as repeat

-- how it says that the retry is over
abbrev pub how_of : {I F : Type 0} → CallEnding I F → How
how_of (call.Won item) = how.Won
how_of (call.ScheduleDone fault) = how.ScheduleDone
how_of (call.BudgetRefused fault) = how.BudgetRefused
how_of (call.DeadlinePassed fault) = how.DeadlinePassed
how_of (call.Broken cause fault) = how.Broken cause

-- what the last call gave
abbrev pub gave : {I F : Type 0} → CallEnding I F → Result I F
gave (call.Won item) = Ok item
gave (call.ScheduleDone fault) = Err fault
gave (call.BudgetRefused fault) = Err fault
gave (call.DeadlinePassed fault) = Err fault
gave (call.Broken cause fault) = Err fault

-- how it says that the repeat is over
abbrev pub how_of_repeat : {I F : Type 0} → RepeatCallEnding I F → How
how_of_repeat (repeat.ScheduleDone item) = how.ScheduleDone
how_of_repeat (repeat.DeadlinePassed item) = how.DeadlinePassed
how_of_repeat (repeat.Failed fault) = how.Failed
how_of_repeat (repeat.Broken cause item) = how.Broken cause

-- what the last call gave
abbrev pub gave_of_repeat : {I F : Type 0} → RepeatCallEnding I F → Result I F
gave_of_repeat (repeat.ScheduleDone item) = Ok item
gave_of_repeat (repeat.DeadlinePassed item) = Ok item
gave_of_repeat (repeat.Failed fault) = Err fault
gave_of_repeat (repeat.Broken cause item) = Ok item

-- a task is over so, and its last run is the one that gave this
abbrev pub EndsWith : {I F : Type 0} → (I → ℕ) → (F → ℕ) → Option How → List Ran → How → Result I F → Type 0
EndsWith item_code fault_code over runs how outcome =
    (over ≡ Some how) × (last_element runs ≡ Some (ran_by item_code fault_code outcome))

-- how calls may end after a run that calls for a step, of a repeat or a retry: at its end, or by a deadline in the wait
-- after it
abbrev pub MayStopCalls : Bool → Option How → Type 0
MayStopCalls repeats None = Unit {0}
MayStopCalls repeats (Some how.ScheduleDone) = Unit {0}
MayStopCalls repeats (Some how.BudgetRefused) = not repeats ≡ true
MayStopCalls repeats (Some how.DeadlinePassed) = Unit {0}
MayStopCalls repeats (Some (how.Broken fault)) = Unit {0}
MayStopCalls repeats (Some how) = ⊥

-- how calls may end after a run: a success ends a retry, and a failure a repeat
abbrev pub EndsCalls : Bool → Ran → Option How → Type 0
EndsCalls false (Won code) over = over ≡ Some how.Won
EndsCalls false (Lost code) over = MayStopCalls false over
EndsCalls true (Won code) over = MayStopCalls true over
EndsCalls true (Lost code) over = over ≡ Some how.Failed
