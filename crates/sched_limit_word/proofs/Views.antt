-- The laws of all views, from the rule.
use Rattle.std.proofs.Common.{sym, ap, ◌∙◌, arith}
use Rattle.sched_ticket.specs.Lists.{total}
use Rattle.sched_ticket.proofs.Sums.{alone, term_le}
use Rattle.sched_limit_word.specs.Laws.{MovesAreOneRun, SightIsTrue, WhatIsKeptHolds, EachMoveIsSo, SumsTelescope}
use Rattle.sched_limit_word.specs.Laws.{PartsAreKept, SpentHasNothing, WholeHasAll, word_of}
use Rattle.sched_limit_word.specs.Tokens.{UsedWasGained}
use Rattle.sched_limit_word.specs.declared.view.View.{View}
use Rattle.sched_limit_word.proofs.Runs.{kept_now, kept_there, each_so, telescopes, lapse, none_lapses, each_is_so}

pub moves_are_one_run : MovesAreOneRun
moves_are_one_run next first s kept = (kept.is_run, kept.shared)

pub sight_is_true : SightIsTrue
sight_is_true next first s kept by v at = (kept.each by v at).seen

pub what_is_kept_holds : WhatIsKeptHolds
what_is_kept_holds next first s kept Q keeps = (
  kept_now next first Q keeps kept.run (word_of s) kept.is_run,
  λ w there. kept_there next first Q keeps kept.run (word_of s) w kept.is_run there,
)

pub each_move_is_so : EachMoveIsSo
each_move_is_so next first s kept by v at Q R keeps so =
    let all = none_lapses R kept.run (each_so next first Q keeps R so kept.run (word_of s) kept.is_run) in
    each_is_so R v.moves
    (omega (arith, kept.shared (lapse R), term_le (λ (u : View). total (lapse R) u.moves) s.views by v at, all))

pub used_was_gained : UsedWasGained
used_was_gained o next first s owned = (owned.own, owned.owns)

pub sums_telescope : SumsTelescope
sums_telescope next first s kept Q value taken given keeps so =
    omega (
      arith,
      telescopes next first Q keeps value taken given so kept.run (word_of s) kept.is_run,
      kept.shared taken,
      kept.shared given,
    )

pub parts_are_kept : PartsAreKept
parts_are_kept next first s kept = kept.parts

pub spent_has_nothing : SpentHasNothing
spent_has_nothing next first s kept by v at = (kept.each by v at).spent

pub whole_has_all : WholeHasAll
whole_has_all next first s kept by v at all h =
    let moves = alone (λ (u : View). total h u.moves) (λ (u : View). u.weight) s.views by v
    (λ i u there none. ap (total h) ((kept.each i u there).spent none)) at (kept.parts ∙ sym all) in
    omega (arith, moves, kept.shared h)
