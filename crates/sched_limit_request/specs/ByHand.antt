-- What somebody does to a breaker by hand, with a pass of its limit.
use Rattle.std.specs.Prelude.{◌≡◌, ◌⊎◌, ℕ}
use Rattle.sched_limit_word.specs.Calls.{Called, LostRaces}
use Rattle.sched_limit_word.specs.declared.call.Call.{Call}
use Rattle.sched_limit_word.specs.declared.call.Call.TheVariants.{OpenedByHand, ClosedByHand}
use Rattle.sched_limit.specs.Breaker.{breaker_next}
use Rattle.sched_limit.specs.declared.breaker.Breaker.{Breaker}
use Rattle.sched_limit_request.specs.Limits.{OfLimit}
use Rattle.sched_limit_request.specs.declared.by_hand.Hand.{Hand}
use Rattle.sched_limit_request.specs.declared.by_hand.Hand.TheVariants.{Open, Close}

abbrev pub call_by_hand : Hand → Call
call_by_hand (Open now until) = OpenedByHand now until
call_by_hand (Close now) = ClosedByHand now

-- Within the call there was a moment at which the breaker's word was one that it found, and the call was made on it; or
-- other calls came first at each of 2^64 - 1 tries. Its request is as it was.
pub record IsByHand (hand : Hand) (d e : OfLimit Breaker) : Type 0 where
  pub limit : e.limit ≡ d.limit
  pub table : e.pass.table ≡ d.pass.table
  pub request : e.request ≡ d.request
  pub how : ((word : ℕ) × Called (breaker_next d.limit.machine) (call_by_hand hand) word d.pass.has e.pass.has)
      ⊎ LostRaces 18446744073709551615 d.pass.has e.pass.has
