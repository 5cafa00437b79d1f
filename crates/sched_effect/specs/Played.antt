-- Runs that follow a script.
use Rattle.std.specs.Prelude.{◌≡◌, ℕ, ◌-◌, ◌<◌, min, List, length, slice_index_or}
use Rattle.sched_effect.specs.declared.ran.Ran.{Ran}

-- a script, and the runs that have finished
pub record Played : Type 0 where
  pub script : List Ran
  pub runs : List Ran

-- the outcome of the run after these, as the script says
abbrev pub IsNext : List Ran → List Ran → Ran → Type 0
IsNext script runs outcome = outcome ≡ slice_index_or script (min (length runs) (length script - 1)) outcome

-- the runs are the script's in order, its last one repeated
abbrev pub Follows : List Ran → List Ran → Type 0
Follows script runs = (n : ℕ) (other : Ran) → n < length runs →
    slice_index_or runs n other ≡ slice_index_or script (min n (length script - 1)) other
