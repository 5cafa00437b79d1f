-- What a finished run and an asked fallback leave.
use Rattle.std.specs.Prelude.{◌≡◌, ℕ, List, [], ◌∷◌, Option, Some, None, Result, Ok, Err}
use Rattle.futures.specs.declared.task.Poll.{Poll}
use Rattle.futures.specs.declared.task.Poll.TheVariants.{Ready, Pending}
use Rattle.sched_plan.specs.Datum.{Datum}
use Rattle.sched_time.specs.declared.faults.NoMemory.{NoMemory}
use Rattle.sched_effect.specs.declared.ran.Ran.{Ran}
use Rattle.sched_effect.specs.declared.ran.Ran.TheVariants.{Won, Lost}

-- the code of a run
abbrev pub code_of : Ran → ℕ
code_of (Won code) = code
code_of (Lost code) = code

module _ {I F : Type 0} (item_code : I → ℕ) (fault_code : F → ℕ) where
  -- how a run went, by the codes of items and faults
  abbrev pub ran_by : Result I F → Ran
  ran_by (Ok item) = Won (item_code item)
  ran_by (Err fault) = Lost (fault_code fault)

  -- the runs that a poll ended: one, or none where it is pending or memory is refused
  abbrev pub ended_by : Poll (Result (Result I F) NoMemory) → List Ran
  ended_by (Ready (Ok run)) = ran_by run ∷ []
  ended_by (Ready (Err fault)) = []
  ended_by Pending = []

  -- What a poll of a fallback leaves: the code of the fault and the output that it was asked with, and its answer, if
  -- it has one yet. Nothing is said of one that ends as `NoMemory`.
  abbrev pub Falls : Poll (Result (Result I F) NoMemory) → ℕ → Datum → Option (ℕ × Datum) → Option Ran → Type 0
  Falls (Ready (Ok run)) code output asked answered = (asked ≡ Some (code, output)) × (answered ≡ Some (ran_by run))
  Falls (Ready (Err fault)) code output asked answered = Unit {0}
  Falls Pending code output asked answered = (asked ≡ Some (code, output)) × (answered ≡ None)
