-- What is seen of limits, and what somebody does by hand to their breakers.
use Rattle.std.specs.Prelude.{◌≡◌, ℕ, ◌<◌, ◌≤◌, Bool, Option, Some, None}
use Rattle.sched_limit.specs.declared.seen.Seen.{Seen}
use Rattle.sched_limit_request.specs.declared.by_hand.Hand.{Hand}
use Rattle.sched_limit_handle.specs.Looks.{HeldByHand, has_breaker, HeldSeen}
use Rattle.sched_limit_handle.specs.Held.{count}
use Rattle.sched_limit_handle.specs.declared.held.Held.{Held}

-- it is done to each breaker, and the answer is whether there is one
abbrev pub DoesByHand : Hand → Held → Bool → Held → Type 0
DoesByHand hand u r v = HeldByHand hand u v × (r ≡ has_breaker u)

-- the limit of this number is looked at, or there is none
abbrev pub SeesLimit : ℕ → ℕ → Held → Option Seen → Held → Type 0
SeesLimit which now u (Some s) v = (which < count u) × HeldSeen which now u s v
SeesLimit which now u None v = (count u ≤ which) × (v ≡ u)
