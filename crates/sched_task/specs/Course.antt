-- The polls of one task by a clock and a generator, one after the other.
use Rattle.std.specs.Prelude.{◌≡◌, ℕ, Bool, true, false, List, [], ◌∷◌, Option, Some, None}
use Rattle.futures.specs.declared.task.Poll.{Poll}
use Rattle.futures.specs.declared.task.Poll.TheVariants.{Ready, Pending}
use Rattle.rand_core.specs.Stream.{Stream}
use Rattle.sched_time.specs.declared.numbers.Tick.{Tick}
use Rattle.sched_task.specs.Words.{next_four}

-- whether a poll was ready
abbrev pub is_ready : {A : Type 0} → Poll A → Bool
is_ready (Ready x) = true
is_ready Pending = false

-- a task that was not given yet, with its clock and its generator
pub record Timing (T C G : Type 0) : Type 0 where
  pub task : Option T
  pub clock : C
  pub rng : G

-- one poll: its tick, and the task and the clock after it
pub record Turn (T C : Type 0) : Type 0 where
  pub tick : Tick
  pub task : T
  pub clock : C

-- the moment that a clock answers: to `wait_until` where a moment is waited for, else to `now`
abbrev pub Answered : {C : Type 0} → (C → ℕ → C → Type 0) → (C → ℕ → ℕ → C → Type 0) → Option ℕ → C → ℕ → C → Type 0
Answered tells waits None clock moment after = tells clock moment after
Answered tells waits (Some until) clock moment after = waits clock until moment after

module _ {T C : Type 0} (waits_for : T → Option ℕ) (one_poll : T → Tick → Bool → T → Type 0)
    (tells : C → ℕ → C → Type 0) (waits : C → ℕ → ℕ → C → Type 0) where
  -- this poll of the task has the moment that the clock answered and the next four words in lanes 0 to 3
  pub record IsPoll (task : T) (clock : C) (words : Stream) (ready : Bool) (turn : Turn T C) : Type 0 where
    pub moment : Answered tells waits (waits_for task) clock turn.tick.now turn.clock
    pub lanes : turn.tick.words ≡ (next_four words).0
    pub poll : one_poll task turn.tick ready turn.task

  -- these polls, one after the other, each with the next four words; the last one is ready, the others are pending
  abbrev pub Course : T → C → Stream → List (Turn T C) → T → Type 0
  Course task clock words [] out = ⊥
  Course task clock words (turn ∷ []) out = IsPoll task clock words true turn × (turn.task ≡ out)
  Course task clock words (turn ∷ next ∷ turns) out =
      IsPoll task clock words false turn × Course turn.task turn.clock (next_four words).1 (next ∷ turns) out
