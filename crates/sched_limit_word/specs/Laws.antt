-- What the rule says of every machine. Each law is the contract of a function of the module `laws`.
use Rattle.std.specs.Prelude.{◌≡◌, ℕ, ◌+◌, ◌<◌, Bool, true, [], slice_index}
use mathlib.Core.Option.{some}
use lib.ListN.{get_elem?}
use Rattle.atomic_table.specs.Table.{State}
use Rattle.sched_ticket.specs.Lists.{total, Each}
use Rattle.sched_ticket.specs.Parts.{all_parts}
use Rattle.sched_limit_word.specs.Rule.{Next, IsRun, WasThere, moves_of, weights, IsKept}
use Rattle.sched_limit_word.specs.View.{move}
use Rattle.sched_limit_word.specs.declared.call.Call.{Call}
use Rattle.sched_limit_word.specs.declared.view.Move.{Move}
use Rattle.sched_limit_word.specs.declared.view.View.{View}

abbrev pub OfState : Type 1
OfState = (next : Next) (first : ℕ) (s : State Call View) → IsKept next first s → Type 0

-- of every limit of every machine, between any two atomic steps
abbrev pub Always : OfState → Type 0
Always P = (next : Next) (first : ℕ) (s : State Call View) (kept : IsKept next first s) → P next first s kept

-- of every pass, alive or dropped
abbrev pub OfEachPass : ((next : Next) (first : ℕ) (s : State Call View) → IsKept next first s → View → Type 0) → Type 0
OfEachPass P = Always (λ next first s kept.
    (by : ℕ) (v : View) → get_elem? s.views by ≡ some v → P next first s kept v)

-- the word that the limit has now
abbrev pub word_of : State Call View → ℕ
word_of s = slice_index s.words 8

-- the moves of all passes are one run of the machine: each move is in one pass, and each found the word that the one
-- before left
abbrev pub MovesAreOneRun : Type 0
MovesAreOneRun = Always (λ next first s kept.
    IsRun next first kept.run (word_of s) × ((h : Move → ℕ) → total h kept.run ≡ moves_of h s.views))

-- what a pass has seen was there
abbrev pub SightIsTrue : Type 0
SightIsTrue = OfEachPass (λ next first s kept v. 0 < v.weight → WasThere first kept.run v.seen)

-- Q is true of the word at first, and each call keeps it
abbrev pub IsKeptBy : Next → ℕ → (ℕ → Bool) → Type 0
IsKeptBy next first Q = (Q first ≡ true) × ((c : Call) (w : ℕ) → Q w ≡ true → Q (next c w) ≡ true)

-- what is true of the word at first, and kept by each call, is true of each word that was there
abbrev pub WhatIsKeptHolds : Type 0
WhatIsKeptHolds = Always (λ next first s kept. (Q : ℕ → Bool) → IsKeptBy next first Q →
    (Q (word_of s) ≡ true) × ((w : ℕ) → WasThere first kept.run w → Q w ≡ true))

-- what is true of each call on such a word is true of each move of each pass
abbrev pub EachMoveIsSo : Type 0
EachMoveIsSo = OfEachPass (λ next first s kept v. (Q : ℕ → Bool) (R : Move → Bool) → IsKeptBy next first Q →
    ((c : Call) (w : ℕ) → Q w ≡ true → R (move c w (next c w)) ≡ true) → Each (λ m. R m ≡ true) v.moves)

-- where each call takes from a value of the word and gives to it, what all passes took and what is left is what there
-- was at first and what they gave
abbrev pub SumsTelescope : Type 0
SumsTelescope = Always (λ next first s kept. (Q : ℕ → Bool) (value : ℕ → ℕ) (taken given : Move → ℕ) →
    IsKeptBy next first Q →
    ((c : Call) (w : ℕ) → Q w ≡ true →
    value (next c w) + taken (move c w (next c w)) ≡ value w + given (move c w (next c w))) →
    value (word_of s) + moves_of taken s.views ≡ value first + moves_of given s.views)

-- the passes have all parts, however often they were split and joined
abbrev pub PartsAreKept : Type 0
PartsAreKept = Always (λ next first s kept. weights s.views ≡ all_parts)

-- a view that stands for no part has nothing
abbrev pub SpentHasNothing : Type 0
SpentHasNothing = OfEachPass (λ next first s kept v. v.weight ≡ 0 → v.moves ≡ [])

-- the moves of a pass that has all parts are those of the run
abbrev pub WholeHasAll : Type 0
WholeHasAll = OfEachPass (λ next first s kept v.
    v.weight ≡ all_parts → (h : Move → ℕ) → total h v.moves ≡ total h kept.run)
