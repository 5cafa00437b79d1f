-- What is done with limits beside what requests ask of them: looks at their words, requests that begin by these, what
-- somebody does by hand to breakers, and what is seen. Of a limit, and of limits and one more, which is asked last.
use Rattle.std.specs.Prelude.{◌≡◌, ℕ, zero, suc, ◌&&◌, ◌||◌, Bool, true, false, if◌then◌else◌}
use Rattle.sched_limit.specs.Quiet.{is_full, is_calm}
use Rattle.sched_limit.specs.States.{bucket_seen, flight_seen, adaptive_seen, breaker_seen}
use Rattle.sched_limit.specs.Word.{stamp_of}
use Rattle.sched_limit.specs.declared.seen.Seen.{Seen}
use Rattle.sched_limit_request.specs.Asks.{Asked}
use Rattle.sched_limit_request.specs.ByHand.{IsByHand}
use Rattle.sched_limit_request.specs.Pairs.{both_asked}
use Rattle.sched_limit_request.specs.Quiet.{looked, may_begin, begun}
use Rattle.sched_limit_request.specs.States.{IsSeen, IsThrottleSeen}
use Rattle.sched_limit_request.specs.declared.both.Both.{Both}
use Rattle.sched_limit_request.specs.declared.by_hand.Hand.{Hand}
use Rattle.sched_limit_handle.specs.AnyLimit.{Same, any_asked}
use Rattle.sched_limit_handle.specs.declared.any_limit.AnyLimit.{AnyLimit}
use Rattle.sched_limit_handle.specs.declared.any_limit.AnyLimit.TheVariants as any

-- what is said of limits D, which have the words W
pub record Stood (D W : Type 0) : Type 1 where
  -- what requests ask of them and tell
  pub asked : Asked D
  -- a look saw these words
  pub looked : D → W → D
  -- whether a request may begin at these words: at each of them
  pub may_begin : D → W → Bool
  -- a request of all limits begins at these words, where it may
  pub begun : D → W → D
  -- what somebody does by hand to each breaker
  pub by_hand : Hand → D → D → Type 0
  pub has_breaker : D → Bool
  -- what is seen at a moment of the limit after which so many others are asked
  pub seen : ℕ → ℕ → D → Seen → D → Type 0

-- a bound on what is in flight, an adaptive limit and a throttle have no quiet word, and are not looked at
abbrev pub any_looked : AnyLimit → ℕ → AnyLimit
any_looked (any.Bucket d) word = any.Bucket (looked d word)
any_looked (any.Breaker d) word = any.Breaker (looked d word)
any_looked l word = l

abbrev pub any_may_begin : AnyLimit → ℕ → Bool
any_may_begin (any.Bucket d) word = may_begin is_full d word
any_may_begin (any.Breaker d) word = may_begin is_calm d word
any_may_begin l word = false

abbrev pub any_begun : AnyLimit → ℕ → AnyLimit
any_begun (any.Bucket d) word = any.Bucket (begun is_full (λ b word. 0) d word)
any_begun (any.Breaker d) word = any.Breaker (begun is_calm (λ b word. stamp_of word) d word)
any_begun l word = l

-- a limit of another kind than a breaker stays as it is
abbrev pub AnyByHand : Hand → AnyLimit → AnyLimit → Type 0
AnyByHand hand (any.Breaker d) v = Same any.Breaker v (IsByHand hand d)
AnyByHand hand l v = v ≡ l

abbrev pub is_breaker : AnyLimit → Bool
is_breaker (any.Breaker d) = true
is_breaker l = false

abbrev pub AnySeen : ℕ → AnyLimit → Seen → AnyLimit → Type 0
AnySeen now (any.Bucket d) s v = Same any.Bucket v (IsSeen bucket_seen d s)
AnySeen now (any.InFlight d) s v = Same any.InFlight v (IsSeen flight_seen d s)
AnySeen now (any.Adaptive d) s v = Same any.Adaptive v (IsSeen (λ k. adaptive_seen) d s)
AnySeen now (any.Breaker d) s v = Same any.Breaker v (IsSeen breaker_seen d s)
AnySeen now (any.Throttle d) s v = Same any.Throttle v (IsThrottleSeen now d s)

abbrev pub any_stood : Stood AnyLimit ℕ
any_stood = record {
  asked = any_asked;
  looked = any_looked;
  may_begin = any_may_begin;
  begun = any_begun;
  by_hand = AnyByHand;
  has_breaker = is_breaker;
  seen = λ after. AnySeen;
}

module _ {D W : Type 0} (a : Stood D W) where
  abbrev pub and_may_begin : Both D AnyLimit → W × ℕ → Bool
  and_may_begin p w = a.may_begin p.first w.0 && any_may_begin p.second w.1

  -- the others stay as they are
  abbrev pub AndSeen : ℕ → ℕ → Both D AnyLimit → Seen → Both D AnyLimit → Type 0
  AndSeen zero now p s q = (q.first ≡ p.first) × AnySeen now p.second s q.second
  AndSeen (suc after) now p s q = a.seen after now p.first s q.first × (q.second ≡ p.second)

  abbrev pub and_stood : Stood (Both D AnyLimit) (W × ℕ)
  and_stood = record {
    asked = both_asked a.asked any_asked;
    looked = λ p w. record { first = a.looked p.first w.0; second = any_looked p.second w.1 };
    may_begin = and_may_begin;
    begun = λ p w. if and_may_begin p w
        then record { first = a.begun p.first w.0; second = any_begun p.second w.1 } else p;
    by_hand = λ hand p q. a.by_hand hand p.first q.first × AnyByHand hand p.second q.second;
    has_breaker = λ p. a.has_breaker p.first || is_breaker p.second;
    seen = AndSeen;
  }
