-- Tokens of a limit: what a move gains, of a kind that a number names, and what it uses. What is used was gained
-- before, and is used once.
use Rattle.std.specs.Prelude.{◌≡◌, ℕ, ◌+◌, ◌<◌, ◌≤◌, List, [], ◌∷◌}
use mathlib.Core.Option.{some}
use lib.ListN.{get_elem?}
use Rattle.atomic_table.specs.Table.{State}
use Rattle.sched_ticket.specs.Lists.{total}
use Rattle.sched_limit_word.specs.Rule.{Next, IsKept}
use Rattle.sched_limit_word.specs.View.{move}
use Rattle.sched_limit_word.specs.declared.call.Call.{Call}
use Rattle.sched_limit_word.specs.declared.view.Move.{Move}
use Rattle.sched_limit_word.specs.declared.view.View.{View}

-- how many tokens of each kind a move gains, and how many it uses
pub record Tokens : Type 0 where
  pub gained : Move → ℕ → ℕ
  pub used : Move → ℕ → ℕ

-- those of a machine that has none
abbrev pub no_tokens : Tokens
no_tokens = record { gained = λ m kind. 0; used = λ m kind. 0 }

-- all that moves gained, and all that they used
abbrev pub gained_by : Tokens → ℕ → List Move → ℕ
gained_by o kind moves = total (λ (m : Move). o.gained m kind) moves

abbrev pub used_by : Tokens → ℕ → List Move → ℕ
used_by o kind moves = total (λ (m : Move). o.used m kind) moves

-- what a move uses, these moves gained and did not use
abbrev pub MayMove : Tokens → Move → List Move → Type 0
MayMove o m moves = (kind : ℕ) → 0 < o.used m kind → o.used m kind + used_by o kind moves ≤ gained_by o kind moves

-- the same of the move that a call makes, whatever word it finds
abbrev pub MayCall : Tokens → Next → Call → List Move → Type 0
MayCall o next c moves = (word : ℕ) → MayMove o (move c word (next c word)) moves

-- each move of a run used what was gained before it, and not used since
abbrev pub UsesItsOwn : Tokens → List Move → Type 0
UsesItsOwn o [] = Unit {0}
UsesItsOwn o (m ∷ run) = MayMove o m run × UsesItsOwn o run

-- moves used at most what they gained
abbrev pub Owns : Tokens → List Move → Type 0
Owns o moves = (kind : ℕ) → used_by o kind moves ≤ gained_by o kind moves

-- the rule of a limit's table, with its tokens
pub record IsOwned (o : Tokens) (next : Next) (first : ℕ) (s : State Call View) : Type 0 where
  pub kept : IsKept next first s
  pub own : UsesItsOwn o kept.run
  pub owns : (by : ℕ) (v : View) → get_elem? s.views by ≡ some v → Owns o v.moves

-- What a move of the run used was gained before it, and was not used since. A pass used at most what it gained.
abbrev pub UsedWasGained : Type 0
UsedWasGained = (o : Tokens) (next : Next) (first : ℕ) (s : State Call View) (owned : IsOwned o next first s) →
    UsesItsOwn o owned.kept.run × ((by : ℕ) (v : View) → get_elem? s.views by ≡ some v → Owns o v.moves)
