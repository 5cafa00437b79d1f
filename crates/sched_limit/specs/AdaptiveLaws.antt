-- What holds of an adaptive limit between any two atomic steps.
use Rattle.std.specs.Prelude.{◌≡◌, ℕ, ◌+◌, ◌*◌, ◌≤◌, ◌==◌, ◌&&◌, ◌||◌, Bool, true, false, nat_le}
use Rattle.atomic_table.specs.Table.{State}
use Rattle.sched_limit_word.specs.Laws.{word_of}
use Rattle.sched_limit_word.specs.Rule.{moves_of, IsKept}
use Rattle.sched_limit_word.specs.Tokens.{IsOwned}
use Rattle.sched_limit_word.specs.declared.call.Call.{Call}
use Rattle.sched_limit_word.specs.declared.call.Call.TheVariants.{Admit, Failed, Succeeded}
use Rattle.sched_limit_word.specs.declared.view.Move.{Move}
use Rattle.sched_limit_word.specs.declared.view.View.{View}
use Rattle.sched_limit.specs.Adaptive.{adaptive_first, adaptive_next, inside_of, level_of}
use Rattle.sched_limit.specs.AdaptiveTokens.{adaptive_gained, adaptive_used, adaptive_tokens}
use Rattle.sched_limit.specs.Laws.{EachMove}
use Rattle.sched_limit.specs.declared.adaptive.Adaptive.{Adaptive}

-- the level is from the least to the most, and no more requests are in flight than the most
pub record IsInBounds (k : Adaptive) (word : ℕ) : Type 0 where
  pub least : 1000 * k.least ≤ level_of word
  pub most : level_of word ≤ 1000 * k.most
  pub inside : inside_of word ≤ k.most

abbrev pub LevelsStayWithin : Type 0
LevelsStayWithin = (k : Adaptive) (s : State Call View) → IsKept (adaptive_next k) (adaptive_first k) s →
    IsInBounds k (word_of s)

-- an admission leaves no more requests than the level of that moment admits
abbrev pub is_under : Call → ℕ → ℕ → Bool
is_under (Admit now random before) found left =
    (left == found) || ((level_of left == level_of found) && nat_le (1000 * inside_of left) (level_of found))
is_under call found left = true

abbrev pub AdmitsAreUnderTheLevel : Type 0
AdmitsAreUnderTheLevel = (k : Adaptive) → EachMove (adaptive_next k) (adaptive_first k) is_under

-- the level rises by successes while half of it is in use, falls by failures, and else stays
abbrev pub may_raise : Call → ℕ → Bool
may_raise (Succeeded now generation worth) found = nat_le (level_of found) (2000 * inside_of found)
may_raise call found = false

abbrev pub may_lower : Call → Bool
may_lower (Failed now generation) = true
may_lower call = false

abbrev pub learns_so : Call → ℕ → ℕ → Bool
learns_so call found left =
    (nat_le (level_of left) (level_of found) || may_raise call found)
    && (nat_le (level_of found) (level_of left) || may_lower call)

abbrev pub LevelsLearnInUse : Type 0
LevelsLearnInUse = (k : Adaptive) → EachMove (adaptive_next k) (adaptive_first k) learns_so

-- what has ended, and what is in flight, is what was admitted
abbrev pub InsideIsCounted : Type 0
InsideIsCounted = (k : Adaptive) (s : State Call View) →
    IsOwned adaptive_tokens (adaptive_next k) (adaptive_first k) s →
    inside_of (word_of s) + moves_of (λ (m : Move). adaptive_used m.call) s.views
    ≡ moves_of (λ (m : Move). adaptive_gained m.call m.found) s.views
