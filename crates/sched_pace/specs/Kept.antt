-- What holds of a pace's word that a store keeps, however the steps of all processes follow one another, and wherever
-- one of them stops. Each step is a call, or none.
use Rattle.std.specs.Prelude.{ℕ, ◌<◌, List, [], ◌∷◌, Option, Some, None}
use Rattle.sched_limit_word.specs.Rule.{IsRun}
use Rattle.sched_limit_word.specs.Tokens.{UsesItsOwn}
use Rattle.sched_limit_word.specs.View.{move}
use Rattle.sched_limit_word.specs.declared.call.Call.{Call}
use Rattle.sched_limit_word.specs.declared.view.Move.{Move}
use Rattle.sched_pace.specs.Pace.{pace_next}
use Rattle.sched_pace.specs.Starts.{AreFew}
use Rattle.sched_pace.specs.Step.{made}
use Rattle.sched_pace.specs.Tokens.{pace_tokens}
use Rattle.sched_pace.specs.declared.pace.Pace.{Pace}

-- the word that a store has after these steps, the latest first
abbrev pub word_kept : Pace → List (Option Call) → ℕ
word_kept p [] = 0
word_kept p (c ∷ cs) = made p c (word_kept p cs)

-- what a step moved
abbrev pub moved : Pace → Option Call → ℕ → List Move → List Move
moved p None word moves = moves
moved p (Some c) word moves = move c word (pace_next p c word) ∷ moves

abbrev pub moves_kept : Pace → List (Option Call) → List Move
moves_kept p [] = []
moves_kept p (c ∷ cs) = moved p c (word_kept p cs) (moves_kept p cs)

-- they are one sequence of calls: each found the word that the one before left, and left what it makes of it
abbrev pub KeptIsOneRun : Type 0
KeptIsOneRun = (p : Pace) (cs : List (Option Call)) → IsRun (pace_next p) 0 (moves_kept p cs) (word_kept p cs)

-- where each step that gives back gives back a take before it, and once, few begin in any time
abbrev pub KeptStartsAreFewer : Type 0
KeptStartsAreFewer = (p : Pace) (cs : List (Option Call)) → UsesItsOwn (pace_tokens p) (moves_kept p cs) →
    AreFew p (moves_kept p cs)

abbrev pub KeptIsSmall : Type 0
KeptIsSmall = (p : Pace) (cs : List (Option Call)) → word_kept p cs < 4611686018427387904
