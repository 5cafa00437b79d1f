-- The adaptive limit as a sequential machine: its word is 2^32 for each request in flight, and the level, in
-- thousandths of a request. Successes add to the level and failures multiply it.
use Rattle.std.specs.Prelude.{ℕ, ◌+◌, ◌-◌, ◌*◌, ◌/◌, ◌%◌, min, max, Bool, if◌then◌else◌, nat_lt, nat_le}
use Rattle.std.specs.Prelude.{Option, Some, None}
use Rattle.sched_limit_word.specs.declared.call.Call.{Call}
use Rattle.sched_limit_word.specs.declared.call.Call.TheVariants.{Admit, Draw, Failed, Succeeded, Ended, Returned}
use Rattle.sched_limit_word.specs.declared.call.Call.TheVariants.{Closed, OpenedByHand, ClosedByHand}
use Rattle.sched_limit.specs.declared.refusal.Refusal.{Refusal}
use Rattle.sched_limit.specs.declared.refusal.Refusal.TheVariants.{TooMany}
use Rattle.sched_limit.specs.declared.adaptive.Adaptive.{Adaptive}

abbrev pub inside_of : ℕ → ℕ
inside_of word = word / 4294967296

abbrev pub level_of : ℕ → ℕ
level_of word = word % 4294967296

abbrev pub laid : ℕ → ℕ → ℕ
laid inside level = inside * 4294967296 + level

-- one request more is within the level
abbrev pub has_room : ℕ → Bool
has_room word = nat_lt (inside_of word) (level_of word / 1000)

-- the level after a failure: the back-off's share of it, and at least the least
abbrev pub lowered : Adaptive → ℕ → ℕ
lowered k level = max (level * k.backoff / 1000) (1000 * k.least)

-- the level after a success: a thousandth of a request more or, where that is more, one request for each that the level
-- admits; and at most the most
abbrev pub raised : Adaptive → ℕ → ℕ
raised k level = min (level + max (1000000 / max level 1) 1) (1000 * k.most)

-- a success while less than half of the level is in use teaches nothing
abbrev pub learned : Adaptive → ℕ → ℕ
learned k word =
    if nat_le (level_of word) (2000 * inside_of word) then laid (inside_of word) (raised k (level_of word)) else word

abbrev pub adaptive_first : Adaptive → ℕ
adaptive_first k = 1000 * k.first

abbrev pub adaptive_next : Adaptive → Call → ℕ → ℕ
adaptive_next k (Admit now random before) word = if has_room word then word + 4294967296 else word
adaptive_next k (Draw now cost slots) word = word
adaptive_next k (Failed now generation) word = laid (inside_of word) (lowered k (level_of word))
adaptive_next k (Succeeded now generation worth) word = learned k word
adaptive_next k (Ended slots) word = laid (inside_of word - 1) (level_of word)
adaptive_next k (Returned cost slots) word = word
adaptive_next k (Closed now) word = word
adaptive_next k (OpenedByHand now until) word = word
adaptive_next k (ClosedByHand now) word = word

abbrev pub adaptive_refusal : Call → ℕ → Option Refusal
adaptive_refusal (Admit now random before) word = if has_room word then None else Some TooMany
adaptive_refusal (Draw now cost slots) word = None
adaptive_refusal (Failed now generation) word = None
adaptive_refusal (Succeeded now generation worth) word = None
adaptive_refusal (Ended slots) word = None
adaptive_refusal (Returned cost slots) word = None
adaptive_refusal (Closed now) word = None
adaptive_refusal (OpenedByHand now until) word = None
adaptive_refusal (ClosedByHand now) word = None
