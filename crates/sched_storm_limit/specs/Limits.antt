-- How a limit stands in a storm, and what becomes of it where a request asks or tells it something.
use Rattle.std.specs.Prelude.{ℕ, ◌+◌, ◌%◌, ◌^◌, ◌==◌, Bool, true, false, if◌then◌else◌, is_ok, slice_index}
use Rattle.rand_core.specs.Stream.{Stream}
use Rattle.rand_core.specs.Steps.{stream_of, steps_u32}
use Rattle.rand_xoshiro.specs.Xoshiro128.{of_seed, plus_plus}
use Rattle.rand_xoshiro.specs.SplitMix64.{splitmix_seed}
use Rattle.sched_task.specs.Words.{next_four}
use Rattle.sched_limit.specs.Step.{Rules, asks, nothing, step}
use Rattle.sched_limit.specs.Turns.{steps}
use Rattle.sched_limit.specs.Adaptive.{adaptive_first}
use Rattle.sched_limit.specs.Kinds.{bucket_rules, flight_rules, adaptive_rules, breaker_rules}
use Rattle.sched_limit.specs.declared.request.Request.{Request}
use Rattle.sched_limit.specs.declared.request.Told.{Told}
use Rattle.sched_limit.specs.declared.request.Told.TheVariants.{Admit, Draw, Failed, Succeeded, Ended}
use Rattle.sched_limit.specs.declared.throttle.Throttle.{Throttle}
use Rattle.sched_storm_limit.specs.declared.draws.Draws.{Draws}
use Rattle.sched_storm_limit.specs.declared.draws.Draws.TheVariants.{Limited}
use Rattle.sched_storm_limit.specs.declared.draws.Limit.{Limit}
use Rattle.sched_storm_limit.specs.declared.draws.Limit.TheVariants as limit

-- a limit's word, which a throttle has for even windows; the throttle's word for odd windows, and its random words to
-- come
pub record Words : Type 0 where
  pub word : ℕ
  pub odd : ℕ
  pub random : Stream

-- how a limit stands: its words, and what each request holds
pub record LimitState : Type 0 where
  pub words : Words
  pub holds : ℕ → Request

abbrev pub first_word : Draws → ℕ
first_word (Limited (limit.Bucket b cost late)) = b.capacity
first_word (Limited (limit.Adaptive k)) = adaptive_first k
first_word _ = 0

-- before the first event: the random words are those of the seed and 1
abbrev pub words_at_first : Draws → ℕ → Words
words_at_first draws seed = record {
  word = first_word draws;
  odd = 0;
  random = stream_of (steps_u32 plus_plus) (of_seed (splitmix_seed 16 ((seed + 1) % 2 ^ 64)));
}

abbrev pub state_at_first : Draws → ℕ → LimitState
state_at_first draws seed = record { words = words_at_first draws seed; holds = λ r. nothing }

-- what a request asks or tells leaves, and whether it is granted
pub record Stepped : Type 0 where
  pub granted : Bool
  pub request : Request
  pub words : Words

-- on the one word of a limit
abbrev pub on_word : Rules → Told → Request → Words → Stepped
on_word m told r w = let s = step m told 0 r w.word in
    record { granted = is_ok s.answer; request = s.request; words = record w { word = s.word } }

-- a throttle's random word is the first of the next four, where it is asked
pub record Drawn : Type 0 where
  pub word : ℕ
  pub words : Words

abbrev pub word_for : Told → Words → Drawn
word_for told w = let four = next_four w.random in
    if asks told
    then record { word = slice_index four.0 0; words = record w { random = four.1 } }
    else record { word = 0; words = w }

-- on the two words of a throttle
abbrev pub on_words : Throttle → Told → Request → Words → Stepped
on_words t told r w = let drawn = word_for told w in let s = steps t told drawn.word r w.word w.odd in
    record {
      granted = is_ok s.answer;
      request = s.request;
      words = record { word = s.even; odd = s.odd; random = drawn.words.random };
    }

abbrev pub tells : Limit → Told → Request → Words → Stepped
tells (limit.Bucket b cost late) told r w = on_word (bucket_rules b) told r w
tells (limit.InFlight k) told r w = on_word (flight_rules k) told r w
tells (limit.Adaptive k) told r w = on_word (adaptive_rules k) told r w
tells (limit.Breaker b) told r w = on_word (breaker_rules b) told r w
tells (limit.Throttle t) told r w = on_words t told r w

-- what a draw costs, after a call that came late or after another
abbrev pub cost_of : Limit → Bool → ℕ
cost_of (limit.Bucket b cost late) is_late = if is_late then late else cost
cost_of _ is_late = 0

-- a request holds this now
abbrev pub holding : ℕ → Request → LimitState → LimitState
holding r request s = record s { holds = λ q. if q == r then request else s.holds q }

-- a request asks a limit, or ends
abbrev pub asking : Limit → Told → ℕ → LimitState → Bool × LimitState
asking m told r s = let a = tells m told (s.holds r) s.words in
    (a.granted, holding r a.request (record s { words = a.words }))

-- it tells a limit how a call went, and holds what it held
abbrev pub telling : Limit → Told → ℕ → LimitState → LimitState
telling m told r s = record s { words = (tells m told (s.holds r) s.words).words }

-- ---- what a request does, at a moment

-- it asks to be admitted, before its first call
abbrev pub admitting : Draws → ℕ → ℕ → LimitState → Bool × LimitState
admitting (Limited m) at r s = asking m (Admit at) r s
admitting _ at r s = (true, s)

-- a call of it failed
abbrev pub failing : Draws → ℕ → ℕ → LimitState → LimitState
failing (Limited m) at r s = telling m (Failed at) r s
failing _ at r s = s

-- it asks for a retry, where the call before came late or did not; the slot that it held is given back first
abbrev pub drawing : Draws → Bool → ℕ → ℕ → LimitState → Bool × LimitState
drawing (Limited m) is_late at r s = asking m (Draw at (cost_of m is_late)) r s
drawing _ is_late at r s = (true, s)

-- it is over, and gives back what it holds
abbrev pub ending : Draws → ℕ → LimitState → LimitState
ending (Limited m) r s = (asking m Ended r s).1
ending _ r s = s

-- a call of it succeeded, and it is over
abbrev pub succeeding : Draws → ℕ → ℕ → LimitState → LimitState
succeeding (Limited m) at r s = ending (Limited m) r (telling m (Succeeded at) r s)
succeeding _ at r s = s

-- the same where it is so, and else nothing
abbrev pub drawing_if : Bool → Draws → Bool → ℕ → ℕ → LimitState → Bool × LimitState
drawing_if true draws is_late at r s = drawing draws is_late at r s
drawing_if false draws is_late at r s = (true, s)

abbrev pub ending_if : Bool → Draws → ℕ → LimitState → LimitState
ending_if true draws r s = ending draws r s
ending_if false draws r s = s
