-- What contracts see of effects made of an action, and a poll of one.
use Rattle.std.specs.Prelude.{◌≡◌, Bool, List, Result, Ok, Err}
use Rattle.futures.specs.declared.task.Poll.{Poll}
use Rattle.futures.specs.declared.task.Poll.TheVariants.{Ready, Pending}
use Rattle.sched_time.specs.declared.faults.NoMemory.{NoMemory}
use Rattle.sched_effect.specs.declared.ran.Ran.{Ran}

-- an action that each run takes once, and the finished runs
pub record Calling (A : Type 0) : Type 0 where
  pub action : A
  pub runs : List Ran

-- the finished runs of futures, and whether one is under way
pub record Awaiting : Type 0 where
  pub runs : List Ran
  pub under_way : Bool

-- The run that ended is what the action gave once. Where memory is refused it was not taken.
abbrev pub RunOnce : {A R : Type 0} → (A → R → A → Type 0) → A → Poll (Result R NoMemory) → A → Type 0
RunOnce gives action (Ready (Ok run)) after = gives action run after
RunOnce gives action (Ready (Err fault)) after = after ≡ action
RunOnce gives action Pending after = ⊥
