-- How a closure is called again and again: turns by a clock and a generator of random words.
use Rattle.std.specs.Prelude.{◌≡◌, ℕ, Bool, true, false, List, [], ◌∷◌, Option, Some, Result}
use Rattle.rand_core.specs.Stream.{Stream}
use Rattle.sched_time.specs.declared.numbers.Tick.{Tick}
use Rattle.sched_effect.specs.Runs.{ran_by}
use Rattle.sched_effect.specs.declared.ran.Ran.{Ran}
use Rattle.sched_task.specs.Course.{Answered}
use Rattle.sched_task.specs.Words.{next_four}

-- What takes turns, as a retry or a repeat does, and so does a machine that may stand for one.
pub record Turning (T : Type 0) : Type 1 where
  -- a run of it is under way
  pub running : T → Bool
  -- the moment that it waits for, if any
  pub due : T → Option ℕ → Type 0
  -- one poll of it at the tick, in which these runs finish
  pub polls : T → Tick → List Ran → T → Type 0

-- What takes turns, with what it is run by.
pub record Calling (T K C O : Type 0) : Type 0 where
  pub task : T
  pub clock : K
  -- what its generator will answer
  pub words : Stream
  -- the closure
  pub call : C
  -- what the last call gave
  pub last : Option O

abbrev pub calling : {T K C O : Type 0} → T → K → Stream → C → Option O → Calling T K C O
calling task clock words call last = record { task = task; clock = clock; words = words; call = call; last = last }

module _ {I F : Type 0} (item_code : I → ℕ) (fault_code : F → ℕ) where
  -- The runs that finish: where one is under way the closure is called, once, and that one finishes as the call gave.
  -- Elsewhere it is not called, and none finishes.
  abbrev pub Finishes : {C : Type 0} → (C → Result I F → C → Type 0) → Bool → C → Option (Result I F) → List Ran →
      C → Option (Result I F) → Type 0
  Finishes gives true call last told called gave =
      (outcome : Result I F) × gives call outcome called × (told ≡ ran_by item_code fault_code outcome ∷ [])
      × (gave ≡ Some outcome)
  Finishes gives false call last told called gave = (told ≡ []) × (called ≡ call) × (gave ≡ last)

-- One turn: a poll with the moment that the clock answers, after the call where one is made, and the next four words in
-- lanes 0 to 3.
pub record Turn {T K C I F : Type 0} (turning : Turning T) (tells : K → ℕ → K → Type 0) (waits : K → ℕ → ℕ → K → Type 0)
    (gives : C → Result I F → C → Type 0) (item_code : I → ℕ) (fault_code : F → ℕ)
    (s : Calling T K C (Result I F)) (tick : Tick) (t : Calling T K C (Result I F)) : Type 0 where
  pub told : List Ran
  pub start : Option ℕ
  pub due : turning.due s.task start
  pub finishes : Finishes item_code fault_code gives (turning.running s.task) s.call s.last told t.call t.last
  pub moment : Answered tells waits start s.clock tick.now t.clock
  pub lanes : (tick.words, t.words) ≡ next_four s.words
  pub poll : turning.polls s.task tick told t.task
