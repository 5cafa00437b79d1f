-- Quiet words: those that a request whose first run succeeds leaves as they are.
use Rattle.std.specs.Prelude.{◌≡◌, ℕ, ◌%◌, ◌==◌, Bool, Option, None}
use Rattle.sched_limit_word.specs.Calls.{Called}
use Rattle.sched_limit_word.specs.Rule.{Next}
use Rattle.sched_limit_word.specs.View.{with_look}
use Rattle.sched_limit_word.specs.declared.call.Call.{Call}
use Rattle.sched_limit_word.specs.declared.call.Call.TheVariants.{Admit, Succeeded, Ended}
use Rattle.sched_limit_word.specs.declared.view.View.{View}
use Rattle.sched_limit.specs.declared.bucket.Bucket.{Bucket}
use Rattle.sched_limit.specs.declared.breaker.Breaker.{Breaker}
use Rattle.sched_limit.specs.declared.refusal.Refusal.{Refusal}

-- at this word a request is admitted, and its calls change nothing: its admission, a success, of whatever generation
-- and worth, and its end
pub record IsQuiet (next : Next) (refusal : Call → ℕ → Option Refusal) (word : ℕ) : Type 0 where
  pub granted : (now random before : ℕ) → refusal (Admit now random before) word ≡ None
  pub admits : (now random before : ℕ) → next (Admit now random before) word ≡ word
  pub succeeds : (now generation worth : ℕ) → next (Succeeded now generation worth) word ≡ word
  pub ends : (slots : ℕ) → next (Ended slots) word ≡ word

-- a bucket that is full
abbrev pub is_full : Bucket → ℕ → Bool
is_full b word = word == b.capacity

-- a breaker that is closed, of whatever generation, while no failure counts, also not among its last results
abbrev pub is_calm : Breaker → ℕ → Bool
is_calm b word = word % 4503599627370496 == 0

-- a look at a quiet word is each of these calls
pub record IsEachCall (next : Next) (word : ℕ) (v : View) : Type 0 where
  pub admits : (now random before : ℕ) → Called next (Admit now random before) word v (with_look v word)
  pub succeeds : (now generation worth : ℕ) → Called next (Succeeded now generation worth) word v (with_look v word)
  pub ends : (slots : ℕ) → Called next (Ended slots) word v (with_look v word)

abbrev pub QuietLooksAreCalls : Type 0
QuietLooksAreCalls = (next : Next) (refusal : Call → ℕ → Option Refusal) (word : ℕ) (v : View) →
    IsQuiet next refusal word → IsEachCall next word v
