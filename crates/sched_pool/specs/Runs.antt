-- A run of a board on threads, and when each of its refusals comes.
use Rattle.std.specs.Prelude.{◌≡◌, ℕ, Bool, false, List, None, is_some, IsSome}
use Rattle.std.specs.List.{list_all}
use Rattle.sched_ticket.specs.Held.{Name, Held}
use Rattle.sched_task_law.specs.Past.{Past}
use Rattle.sched_pool.specs.Boards.{Boarded, IsCrew}
use Rattle.sched_pool.specs.Ends.{IsEnd}
use Rattle.sched_pool.specs.declared.runs.PoolStop.{PoolStop}
use Rattle.sched_pool.specs.declared.runs.PoolStop.TheVariants.{BadWorkers, Sealed, NoMemory, NotStarted, TurnsSpent}

-- every job is over
abbrev pub all_over : List Past → Bool
all_over ends = list_all (λ v. is_some v.over) ends

-- the workers are few enough, and no shares were made
abbrev pub CanRun : Boarded → ℕ → Type 0
CanRun board workers = IsCrew workers × (board.claims ≡ None)

module _ {X N I F : Type 0} where
  -- a board with this pass and so many stations stops for this reason, and what comes back
  abbrev pub StopFits : Name → Boarded → Held → ℕ → PoolStop X N I F → Type 0
  StopFits budget board pass workers (BadWorkers b p) = (IsCrew workers → ⊥) × (b ≡ board) × (p ≡ pass)
  StopFits budget board pass workers (Sealed b p) = IsCrew workers × IsSome board.claims × (b ≡ board) × (p ≡ pass)
  StopFits budget board pass workers (NoMemory b p) = CanRun board workers × (b.jobs ≡ board.jobs) × (p ≡ pass)
  StopFits budget board pass workers (NotStarted b p) = CanRun board workers × (b.jobs ≡ board.jobs) × (p ≡ pass)
  StopFits budget board pass workers (TurnsSpent e) =
      CanRun board workers × IsEnd budget board.jobs pass e.jobs.items e.pass e.granted
      × (all_over e.jobs.items ≡ false)
