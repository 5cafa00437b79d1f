-- What a call does to a pass.
use Rattle.std.specs.Prelude.{◌≡◌, ℕ, ◌+◌}
use Rattle.sched_limit_word.specs.Rule.{Next}
use Rattle.sched_limit_word.specs.View.{moves_after}
use Rattle.sched_limit_word.specs.declared.call.Call.{Call}
use Rattle.sched_limit_word.specs.declared.view.View.{View}

-- a call found the word w, and left what the machine makes of it: that is a move of the pass, where it is another word
pub record Called (next : Next) (c : Call) (w : ℕ) (v u : View) : Type 0 where
  pub moves : u.moves ≡ moves_after v.moves c w (next c w)
  pub seen : u.seen ≡ next c w
  pub looked : u.looks ≡ v.looks + 1
  pub same : u ≡ record v { moves = u.moves; seen = u.seen; looks = u.looks; losses = u.losses }

-- other calls came first t times since the pass looked, and it has made no move
pub record LostRaces (t : ℕ) (v u : View) : Type 0 where
  pub lost : u.losses ≡ t
  pub looked : u.looks ≡ v.looks + 1
  pub same : u ≡ record v { seen = u.seen; looks = u.looks; losses = u.losses }
