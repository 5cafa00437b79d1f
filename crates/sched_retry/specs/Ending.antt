-- What a task hands out once it is over.
use Rattle.std.specs.Prelude.{◌≡◌, ℕ, List, Option, Some, None, Result, Ok, Err}
use Rattle.sched_driver.specs.Driven.{Driven}
use Rattle.sched_effect.specs.Runs.{ran_by}
use Rattle.sched_effect.specs.declared.ran.Ran.{Ran}
use Rattle.sched_effect.specs.declared.ran.Ran.TheVariants as ran
use Rattle.sched_task.specs.declared.endings.How.{How}
use Rattle.sched_task.specs.declared.endings.How.TheVariants as how
use Rattle.sched_task.specs.declared.endings.RunFault.TheVariants.{NoMemory}
use Rattle.sched_task_law.specs.Lists.{last_element}
use Rattle.sched_task_law.specs.Past.{Past}
use Rattle.sched_task_law.specs.Law.{is_refused}
use Rattle.sched_run_machine.specs.declared.runner.Polled.{Polled}
use Rattle.sched_run_machine.specs.declared.runner.Polled.TheVariants.{Pending, Finished}
use Rattle.sched_retry.specs.declared.endings.Ending.{Ending}
use Rattle.sched_retry.specs.declared.endings.Ending.TheVariants.{Won, Failed, ScheduleDone, BudgetRefused}
use Rattle.sched_retry.specs.declared.endings.Ending.TheVariants.{DeadlinePassed, Cancelled, Broken}

-- how it says that the task is over
abbrev pub how_of : {I F : Type 0} → Ending I F → How
how_of (Won item) = how.Won
how_of (Failed fault) = how.Failed
how_of (ScheduleDone run) = how.ScheduleDone
how_of (BudgetRefused fault) = how.BudgetRefused
how_of DeadlinePassed = how.DeadlinePassed
how_of Cancelled = how.Cancelled
how_of (Broken fault) = how.Broken fault

-- how a task is over by the ending that a run came to, or that it goes on
abbrev pub over_by : {I F : Type 0} → Option (Ending I F) → Option How
over_by None = None
over_by (Some ending) = Some (how_of ending)

-- how a run can end a retry or a repeat
abbrev pub CanEnd : {I F : Type 0} → Result I F → How → Type 0
CanEnd run how.ScheduleDone = Unit {0}
CanEnd run (how.Broken fault) = Unit {0}
CanEnd (Ok item) how.Won = Unit {0}
CanEnd (Err fault) how.Failed = Unit {0}
CanEnd (Err fault) how.BudgetRefused = Unit {0}
CanEnd run how = ⊥

-- how a retry or a repeat can be over after a poll of its run
abbrev pub CanBeOver : {I F : Type 0} → Polled I F → Option How → Type 0
CanBeOver (Finished run) None = Unit {0}
CanBeOver (Finished run) (Some how) = CanEnd run how
CanBeOver Pending over = over ≡ None
CanBeOver polled over = over ≡ Some (how.Broken NoMemory)

-- what an ending hands out is the very value that the last run gave
abbrev pub HandsOut : {I F : Type 0} → Option (Result I F) → Ending I F → Type 0
HandsOut last (Won item) = last ≡ Some (Ok item)
HandsOut last (Failed fault) = last ≡ Some (Err fault)
HandsOut last (ScheduleDone run) = last ≡ Some run
HandsOut last (BudgetRefused fault) = last ≡ Some (Err fault)
HandsOut last DeadlinePassed = ⊥
HandsOut last Cancelled = ⊥
HandsOut last (Broken fault) = Unit {0}

module _ {I F : Type 0} (item_code : I → ℕ) (fault_code : F → ℕ) where
  -- an ending says how the task is over; an item or a fault in it has the code of the last run
  abbrev pub EndingFits : Option How → List Ran → Ending I F → Type 0
  EndingFits over runs (Won item) = (over ≡ Some how.Won) × (last_element runs ≡ Some (ran.Won (item_code item)))
  EndingFits over runs (Failed fault) =
      (over ≡ Some how.Failed) × (last_element runs ≡ Some (ran.Lost (fault_code fault)))
  EndingFits over runs (ScheduleDone run) =
      (over ≡ Some how.ScheduleDone) × (last_element runs ≡ Some (ran_by item_code fault_code run))
  EndingFits over runs (BudgetRefused fault) =
      (over ≡ Some how.BudgetRefused) × (last_element runs ≡ Some (ran.Lost (fault_code fault)))
  EndingFits over runs DeadlinePassed = over ≡ Some how.DeadlinePassed
  EndingFits over runs Cancelled = over ≡ Some how.Cancelled
  EndingFits over runs (Broken fault) = over ≡ Some (how.Broken fault)

-- what a retry has done, by what is left of it
abbrev pub left : Driven → List Ran → List ℕ → Option How → ℕ → Past
left driver runs begun over granted = record {
  driver = driver;
  deadline = None;
  runs = runs;
  begun = begun;
  over = over;
  denied = is_refused over;
  granted = granted;
}
