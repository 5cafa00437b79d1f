-- What a look at a word is, which some calls would leave as it is.
use Rattle.std.specs.Prelude.{◌≡◌, ℕ}
use Rattle.sched_limit_word.specs.Calls.{Called}
use Rattle.sched_limit_word.specs.Rule.{Next}
use Rattle.sched_limit_word.specs.View.{with_look}
use Rattle.sched_limit_word.specs.declared.call.Call.{Call}
use Rattle.sched_limit_word.specs.declared.view.View.{View}

-- a look at a word is each call that leaves this word as it is
abbrev pub LooksAreCalls : Type 0
LooksAreCalls = (next : Next) (c : Call) (word : ℕ) (v : View) → next c word ≡ word →
    Called next c word v (with_look v word)
