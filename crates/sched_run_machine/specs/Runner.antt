-- What an effect and the beginnings of its runs are after a poll.
use Rattle.std.specs.Prelude.{◌≡◌, ℕ, Bool, true, false, if◌then◌else◌, List, [], ◌∷◌, ◌++◌, Option, Some, None, Result}
use Rattle.sched_time.specs.declared.numbers.Tick.{Tick}
use Rattle.sched_effect.specs.Runs.{ran_by}
use Rattle.sched_effect.specs.declared.ran.Ran.{Ran}
use Rattle.sched_task.specs.declared.endings.How.{How}
use Rattle.sched_task.specs.declared.endings.How.TheVariants.{Broken}
use Rattle.sched_task.specs.declared.endings.RunFault.TheVariants.{NoMemory}
use Rattle.sched_task_law.specs.Past.{is_under_way}
use Rattle.sched_run_machine.specs.Aims.{EndsAs}
use Rattle.sched_run_machine.specs.declared.runner.Polled.{Polled}
use Rattle.sched_run_machine.specs.declared.runner.Polled.TheVariants.{CannotBegin, Pending, CannotRun, Finished}

-- an effect's finished runs, and the moments at which runs were begun
pub record Runs : Type 0 where
  pub runs : List Ran
  pub begun : List ℕ

-- the beginnings, once a run is under way: it begins at the tick where none was
abbrev pub begun_with : Runs → Tick → List ℕ
begun_with r t = if is_under_way r.runs r.begun then r.begun else r.begun ++ t.now ∷ []

-- a run was begun or under way
abbrev pub polls_run : {I F : Type 0} → Polled I F → Bool
polls_run CannotBegin = false
polls_run _ = true

-- and is under way after it
abbrev pub leaves_run : {I F : Type 0} → Polled I F → Bool
leaves_run Pending = true
leaves_run CannotRun = true
leaves_run _ = false

-- what the run gave that a poll ended, if there is one
abbrev pub given_by : {I F : Type 0} → Polled I F → Option (Result I F)
given_by (Finished run) = Some run
given_by _ = None

module _ {I F : Type 0} (item_code : I → ℕ) (fault_code : F → ℕ) where
  -- the runs that a poll ended
  abbrev pub told_by : Polled I F → List Ran
  told_by (Finished run) = ran_by item_code fault_code run ∷ []
  told_by _ = []

  -- how a repeat or a retry is over after a poll of its run
  abbrev pub IsOver : Bool → Polled I F → Option How → Type 0
  IsOver repeats Pending over = over ≡ None
  IsOver repeats (Finished run) over = EndsAs repeats (ran_by item_code fault_code run) over
  IsOver repeats polled over = over ≡ Some (Broken NoMemory)

  -- what a poll of the run under way leaves, by its answer
  abbrev pub RunPolls : Runs → Tick → Polled I F → Runs → Type 0
  RunPolls old t CannotBegin new = (is_under_way old.runs old.begun ≡ false) × (new ≡ old)
  RunPolls old t Pending new = new ≡ record old { begun = begun_with old t }
  RunPolls old t CannotRun new = new ≡ record old { begun = begun_with old t }
  RunPolls old t (Finished run) new =
      new ≡ record { begun = begun_with old t; runs = old.runs ++ ran_by item_code fault_code run ∷ [] }
