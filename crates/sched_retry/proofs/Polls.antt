-- The ending of a task fits what a poll left.
use Rattle.std.proofs.Common.{◌≡◌, ℕ, Bool, true, false, List, ◌++◌, Option, Some, None, is_some, IfSome, Ok, Err, refl}
use Rattle.sched_effect.specs.declared.ran.Ran.{Ran}
use Rattle.sched_task.specs.declared.endings.How.{How}
use Rattle.sched_task.specs.declared.endings.How.TheVariants as how
use Rattle.sched_run_machine.specs.Aims.{MayStop}
use Rattle.sched_run_machine.specs.declared.runner.Polled.{Polled}
use Rattle.sched_run_machine.specs.declared.runner.Polled.TheVariants.{Finished}
use Rattle.sched_run_machine.specs.Runner.{given_by, told_by, IsOver}
use Rattle.sched_run_machine.proofs.Runs.{last_told}
use Rattle.sched_retry.specs.Ending.{over_by, CanBeOver, HandsOut, EndingFits}
use Rattle.sched_retry.specs.declared.endings.Ending.{Ending}
use Rattle.sched_retry.specs.declared.endings.Ending.TheVariants.{DeadlinePassed, Cancelled, Broken}

-- there is an ending where it is over
pub some_by : {I F : Type 0} (ending : Option (Ending I F)) → is_some (over_by ending) ≡ is_some ending
some_by None = refl
some_by (Some ending) = refl

module _ {I F : Type 0} (item_code : I → ℕ) (fault_code : F → ℕ) where
  -- an ending that hands out what the run gave fits the runs with that
  pub fits_then : (over : Option How) (before runs : List Ran) (polled : Polled I F) (ending : Option (Ending I F)) →
      over ≡ over_by ending → IfSome ending (HandsOut (given_by polled)) →
      runs ≡ before ++ told_by item_code fault_code polled →
      IfSome ending (EndingFits item_code fault_code over runs)
  fits_then over before runs polled None is gave grown = tt
  fits_then over before runs polled (Some DeadlinePassed) is gave grown = is
  fits_then over before runs polled (Some Cancelled) is gave grown = is
  fits_then over before runs polled (Some (Broken fault)) is gave grown = is
  fits_then over before runs polled (Some _) is gave grown =
      (is, last_told item_code fault_code before runs polled _ gave grown)

  -- how a retry or a repeat is over after a poll of its run it can be
  stops : (repeats : Bool) (fault : F) (over : Option How) → MayStop repeats over →
      CanBeOver {I = I} (Finished (Err fault)) over
  stops repeats fault None is = tt
  stops repeats fault (Some how.ScheduleDone) is = tt
  stops repeats fault (Some how.BudgetRefused) is = tt
  stops repeats fault (Some (how.Broken cause)) is = tt
  stops repeats fault (Some _) is = absurd is

  recurs : (item : I) (over : Option How) → MayStop true over → CanBeOver {F = F} (Finished (Ok item)) over
  recurs item None is = tt
  recurs item (Some how.ScheduleDone) is = tt
  recurs item (Some how.BudgetRefused) is = absurd (let bad : false ≡ true = is in cc)
  recurs item (Some (how.Broken cause)) is = tt
  recurs item (Some _) is = absurd is

  pub can_be_over : (repeats : Bool) (polled : Polled I F) (over : Option How) →
      IsOver item_code fault_code repeats polled over →
      CanBeOver polled over
  can_be_over false (Finished (Ok item)) over is = rw is tt
  can_be_over false (Finished (Err fault)) over is = stops false fault over is
  can_be_over true (Finished (Ok item)) over is = recurs item over is
  can_be_over true (Finished (Err fault)) over is = rw is tt
  can_be_over repeats _ over is = is
