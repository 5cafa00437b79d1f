-- What retries may draw on.
use Rattle.std.specs.Prelude.{◌≤◌, Bool, true, false}
use Rattle.sched_ticket_quota.specs.Held.{AreTerms}
use Rattle.sched_limit.specs.Bucket as bucket
use Rattle.sched_storm_limit.specs.declared.draws.Draws.{Draws}
use Rattle.sched_storm_limit.specs.declared.draws.Draws.TheVariants.{Nothing, Budget, Quota, Limited}
use Rattle.sched_storm_limit.specs.declared.draws.Limit.{Limit}
use Rattle.sched_storm_limit.specs.declared.draws.Limit.TheVariants as limit

-- a bucket can be made, and no retry costs more than it holds
abbrev pub IsLimit : Limit → Type 0
IsLimit (limit.Bucket b cost late) = bucket.AreTerms b × (cost ≤ b.capacity) × (late ≤ b.capacity)
IsLimit (limit.InFlight k) = Unit {0}
IsLimit (limit.Adaptive k) = Unit {0}
IsLimit (limit.Breaker b) = Unit {0}
IsLimit (limit.Throttle t) = Unit {0}

abbrev pub AreDraws : Draws → Type 0
AreDraws Nothing = Unit {0}
AreDraws (Budget most) = most ≤ 4294967296
AreDraws (Quota terms) = AreTerms terms
AreDraws (Limited m) = IsLimit m

-- whether retries draw on anything
abbrev pub has_draws : Draws → Bool
has_draws Nothing = false
has_draws _ = true

-- whether they draw on a limit, which may deny a request its first call
abbrev pub is_limited : Draws → Bool
is_limited (Limited m) = true
is_limited _ = false
