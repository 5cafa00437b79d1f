-- What is said of a limit that requests ask, whatever kind it is.
use Rattle.std.specs.Prelude.{ℕ}
use Rattle.sched_limit.specs.Step.{Answer}
use Rattle.sched_limit.specs.declared.request.Told.{Told}
use Rattle.sched_limit_request.specs.declared.fault.SplitFault.{SplitFault}

-- what each call does, of the limit before it and after it
pub record Asked (D : Type 0) : Type 1 where
  -- what a request asks or tells, with a random word, and what it is answered
  pub tells : D → Told → ℕ → Answer → D → Type 0
  -- the part that is split off, and what is left
  pub part : D → D
  pub left : D → D
  -- why there is no part, and what is left then
  pub unsplit : D → SplitFault → D → Type 0

-- what is told needs no random word
pub record Hears {D : Type 0} (asked : Asked D) (told : Told) (d e : D) : Type 0 where
  pub answer : Answer
  pub tells : asked.tells d told 0 answer e
