-- What holds of a limit between any two atomic steps, of its word and of the views of all its passes.
use Rattle.std.specs.Prelude.{◌≡◌, ℕ, ◌<◌, ◌⊎◌, List, [], ◌∷◌, length, slice_index}
use mathlib.Core.Option.{some}
use lib.ListN.{get_elem?}
use Rattle.atomic_table.specs.Table.{State}
use Rattle.sched_ticket.specs.Lists.{total}
use Rattle.sched_ticket.specs.Parts.{all_parts}
use Rattle.sched_limit_word.specs.declared.call.Call.{Call}
use Rattle.sched_limit_word.specs.declared.view.Move.{Move}
use Rattle.sched_limit_word.specs.declared.view.View.{View}

-- what a machine makes of a word
abbrev pub Next : Type 0
Next = Call → ℕ → ℕ

-- a run of the machine, the latest move first: each found the word that the one before left, the first of them the
-- first word, left what its call makes of it, and the last left this word
abbrev pub IsRun : Next → ℕ → List Move → ℕ → Type 0
IsRun next first [] word = word ≡ first
IsRun next first (m ∷ run) word = (word ≡ m.left) × (m.left ≡ next m.call m.found) × IsRun next first run m.found

-- a run found or left this word
abbrev pub WasThere : ℕ → List Move → ℕ → Type 0
WasThere first [] word = word ≡ first
WasThere first (m ∷ run) word = (word ≡ m.left) ⊎ WasThere first run word

-- what the moves of all passes weigh
abbrev pub moves_of : (Move → ℕ) → List View → ℕ
moves_of h views = total (λ (v : View). total h v.moves) views

abbrev pub weights : List View → ℕ
weights views = total (λ (v : View). v.weight) views

-- one view fits a run of all moves
pub record Fits (first : ℕ) (run : List Move) (v : View) : Type 0 where
  -- a pass that stands for some has seen a word that was there
  pub seen : 0 < v.weight → WasThere first run v.seen
  -- one that stands for no part has nothing
  pub spent : v.weight ≡ 0 → v.moves ≡ []

-- the rule of a limit's table
pub record IsKept (next : Next) (first : ℕ) (s : State Call View) : Type 0 where
  pub run : List Move
  pub long : length s.words ≡ 16
  pub is_run : IsRun next first run (slice_index s.words 8)
  -- the moves of the run are those of the passes, each in one of them
  pub shared : (h : Move → ℕ) → total h run ≡ moves_of h s.views
  pub parts : weights s.views ≡ all_parts
  pub each : (by : ℕ) (v : View) → get_elem? s.views by ≡ some v → Fits first run v
