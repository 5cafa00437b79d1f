-- What is seen of a limit by one look at each of its words.
use Rattle.std.specs.Prelude.{◌≡◌, ℕ}
use Rattle.sched_limit.specs.States.{throttle_seen}
use Rattle.sched_limit.specs.declared.seen.Seen.{Seen}
use Rattle.sched_limit_request.specs.Limits.{OfLimit, look_of}
use Rattle.sched_limit_request.specs.Quiet.{looked}
use Rattle.sched_limit_request.specs.Windows.{OfThrottle}

-- the pass has looked at a word, which says this, and nothing else has changed
pub record IsSeen {M : Type 0} (seen : M → ℕ → Seen) (d : OfLimit M) (result : Seen) (e : OfLimit M) : Type 0 where
  pub word : ℕ
  pub says : result ≡ seen d.limit.machine word
  pub looks : e ≡ looked d word

-- the same of the words of even windows and of odd ones
pub record IsThrottleSeen (now : ℕ) (d : OfThrottle) (result : Seen) (e : OfThrottle) : Type 0 where
  pub even : ℕ
  pub odd : ℕ
  pub says : result ≡ throttle_seen d.throttle now even odd
  pub looks : e ≡ record d { even = look_of d.even even; odd = look_of d.odd odd }
