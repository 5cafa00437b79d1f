-- The steps on a word that a store keeps are one run.
use Rattle.std.proofs.Common.{◌≡◌, ℕ, ◌≤◌, true, List, [], ◌∷◌, refl, leb, leb-true, arith}
use Rattle.std.specs.Prelude.{Option, None, Some}
use Rattle.sched_limit_word.specs.Rule.{IsRun}
use Rattle.sched_limit_word.specs.declared.call.Call.{Call}
use Rattle.sched_limit_word.specs.declared.view.Move.{Move}
use Rattle.sched_pace.specs.Kept.{KeptIsOneRun, KeptStartsAreFewer, KeptIsSmall, word_kept, moved, moves_kept}
use Rattle.sched_pace.specs.Pace.{pace_next}
use Rattle.sched_pace.specs.Step.{made}
use Rattle.sched_pace.specs.declared.pace.Pace.{Pace}
use Rattle.sched_pace.proofs.Paces.{kept_small}
use Rattle.sched_pace.proofs.Starts.{run_few}

module _ (p : Pace) where
  goes_on : (c : Option Call) (moves : List Move) (word : ℕ) → IsRun (pace_next p) 0 moves word
      → IsRun (pace_next p) 0 (moved p c word moves) (made p c word)
  goes_on None moves word run = run
  goes_on (Some c) moves word run = (refl, refl, run)

  one_run : (cs : List (Option Call)) → IsRun (pace_next p) 0 (moves_kept p cs) (word_kept p cs)
  one_run [] = refl
  one_run (c ∷ cs) = goes_on c (moves_kept p cs) (word_kept p cs) (one_run cs)

  stays_small : (c : Option Call) (word : ℕ) → leb word 4611686018427387903 ≡ true
      → leb (made p c word) 4611686018427387903 ≡ true
  stays_small None word small = small
  stays_small (Some c) word small = (kept_small p).1 c word small

  small : (cs : List (Option Call)) → leb (word_kept p cs) 4611686018427387903 ≡ true
  small [] = refl
  small (c ∷ cs) = stays_small c (word_kept p cs) (small cs)

pub kept_is_one_run : KeptIsOneRun
kept_is_one_run p cs = one_run p cs

pub kept_starts_are_fewer : KeptStartsAreFewer
kept_starts_are_fewer p cs own = run_few p (moves_kept p cs) (word_kept p cs) (one_run p cs) own

pub kept_is_small : KeptIsSmall
kept_is_small p cs =
    let le : word_kept p cs ≤ 4611686018427387903 = leb-true (word_kept p cs) 4611686018427387903 (small p cs) in
    omega (arith, le)
