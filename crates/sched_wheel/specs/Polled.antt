-- What a loop does to its tasks: polls, one after the other, each of a task that is not over and waits for no later
-- moment. Each has the moment that the clock told just then, and the generator's next four words.
use Rattle.std.specs.Prelude.{◌≡◌, ℕ, zero, suc, ◌<◌, ◌≤◌, Bool, List, [], ◌∷◌, length, slice_index_or, slice_set}
use Rattle.std.specs.Prelude.{Option, Some, None}
use Rattle.rand_core.specs.Stream.{Stream}
use Rattle.sched_time.specs.declared.numbers.Tick.{Tick}
use Rattle.sched_task.specs.Words.{next_four}
use Rattle.sched_task.specs.Course.{Answered}
use Rattle.sched_task.specs.declared.endings.How.{How}

-- what a generator will answer after the words of so many polls
abbrev pub after_polls : ℕ → Stream → Stream
after_polls zero words = words
after_polls (suc polls) words = after_polls polls (next_four words).1

-- the second is what is left of the first after the words of at most so many polls
pub record IsLeft (most : ℕ) (words left : Stream) : Type 0 where
  pub polls : ℕ
  pub few : polls ≤ most
  pub left_is : left ≡ after_polls polls words

-- the moment waited for, if any, has come
abbrev pub HasCome : Option ℕ → ℕ → Type 0
HasCome None now = Unit {0}
HasCome (Some due) now = due ≤ now

module _ {T : Type 0} (ended : T → Option How) (waits_for : T → Option ℕ) where
  -- the task is not over, and may be polled at this moment
  abbrev pub IsOpen : ℕ → T → Type 0
  IsOpen now task = (ended task ≡ None) × HasCome (waits_for task) now

-- a loop's tasks, what its generator will answer, and its clock
pub record Standing (T C : Type 0) : Type 0 where
  pub tasks : List T
  pub words : Stream
  pub clock : C

abbrev pub standing : {T C : Type 0} → List T → Stream → C → Standing T C
standing tasks words clock = record { tasks = tasks; words = words; clock = clock }

-- an answer of a clock: to `wait_until` where a moment was waited for, else to `now`; and the clock after it
pub record Reading (C : Type 0) : Type 0 where
  pub until : Option ℕ
  pub moment : ℕ
  pub clock : C

module _ {C : Type 0} (tells : C → ℕ → C → Type 0) (waits : C → ℕ → ℕ → C → Type 0) where
  -- these answers of a clock, one after the other
  abbrev pub Answers : C → List (Reading C) → C → Type 0
  Answers clock [] after = clock ≡ after
  Answers clock (reading ∷ readings) after =
      Answered tells waits reading.until clock reading.moment reading.clock × Answers reading.clock readings after

  -- the clock was asked some times
  pub record IsAsked (clock after : C) : Type 0 where
    pub readings : List (Reading C)
    pub are : Answers clock readings after

  -- only the clock was asked
  pub record IsIdle {T : Type 0} (loop after : Standing T C) : Type 0 where
    pub clock : IsAsked loop.clock after.clock
    pub tasks : loop.tasks ≡ after.tasks
    pub words : loop.words ≡ after.words

-- a poll: the place of its task, its tick, and the task and the clock after it
pub record Poll (T C : Type 0) : Type 0 where
  pub place : ℕ
  pub tick : Tick
  pub ready : Bool
  pub task : T
  pub clock : C

-- where a poll leaves a loop
abbrev pub polled : {T C : Type 0} → Standing T C → Poll T C → Standing T C
polled loop poll = record {
  tasks = slice_set loop.tasks poll.place poll.task;
  words = (next_four loop.words).1;
  clock = poll.clock;
}

module _ {T C : Type 0} (ended : T → Option How) (waits_for : T → Option ℕ) (one_poll : T → Tick → Bool → T → Type 0)
    (tells : C → ℕ → C → Type 0) (waits : C → ℕ → ℕ → C → Type 0) where
  -- one poll, of a task that may be polled at the moment that the clock tells
  pub record IsPoll (loop : Standing T C) (poll : Poll T C) : Type 0 where
    pub task : T
    pub inside : poll.place < length loop.tasks
    pub there : slice_index_or loop.tasks poll.place task ≡ task
    pub moment : tells loop.clock poll.tick.now poll.clock
    pub lanes : poll.tick.words ≡ (next_four loop.words).0
    pub was_open : IsOpen ended waits_for poll.tick.now task
    pub poll_is : one_poll task poll.tick poll.ready poll.task

  -- these polls, one after the other, and between them only the clock is asked
  abbrev pub ArePolls : Standing T C → List (Poll T C) → Standing T C → Type 0
  ArePolls loop [] after = IsIdle tells waits loop after
  ArePolls loop (poll ∷ polls) after =
      ((before : Standing T C) × IsIdle tells waits loop before × IsPoll before poll
      × ArePolls (polled before poll) polls after)

  -- a loop's course: at most so many polls
  pub record IsCourse (most : ℕ) (loop after : Standing T C) : Type 0 where
    pub polls : List (Poll T C)
    pub few : length polls ≤ most
    pub are : ArePolls loop polls after
