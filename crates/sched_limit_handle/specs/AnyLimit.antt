-- A limit of any kind: what each call does is what it does to that kind.
use Rattle.std.specs.Prelude.{◌≡◌, ℕ}
use Rattle.sched_limit.specs.Step.{Answer}
use Rattle.sched_limit.specs.Kinds.{bucket_rules, flight_rules, adaptive_rules, breaker_rules}
use Rattle.sched_limit.specs.declared.adaptive.Adaptive.{Adaptive}
use Rattle.sched_limit.specs.declared.bucket.Bucket.{Bucket}
use Rattle.sched_limit.specs.declared.in_flight.InFlight.{InFlight}
use Rattle.sched_limit.specs.declared.breaker.Breaker.{Breaker}
use Rattle.sched_limit.specs.declared.request.Told.{Told}
use Rattle.sched_limit_request.specs.Asks.{Asked}
use Rattle.sched_limit_request.specs.declared.fault.SplitFault.{SplitFault}
use Rattle.sched_limit_request.specs.Limits.{OfLimit, Unsplit, limit_asked}
use Rattle.sched_limit_request.specs.Windows.{window_asked}
use Rattle.sched_limit_handle.specs.declared.any_limit.AnyLimit.{AnyLimit}
use Rattle.sched_limit_handle.specs.declared.any_limit.AnyLimit.TheVariants as any

-- what calls do to each kind
abbrev pub on_bucket : Asked (OfLimit Bucket)
on_bucket = limit_asked bucket_rules

abbrev pub on_flight : Asked (OfLimit InFlight)
on_flight = limit_asked flight_rules

abbrev pub on_adaptive : Asked (OfLimit Adaptive)
on_adaptive = limit_asked adaptive_rules

abbrev pub on_breaker : Asked (OfLimit Breaker)
on_breaker = limit_asked breaker_rules

-- after a call a limit is of the same kind, or a handle of as many, and this is true of what it was and is
abbrev pub Same : {D V : Type 0} → (D → V) → V → (D → Type 0) → Type 0
Same {D} kind v P = (e : D) × (v ≡ kind e) × P e

abbrev pub AnyTells : AnyLimit → Told → ℕ → Answer → AnyLimit → Type 0
AnyTells (any.Bucket d) told random r v = Same any.Bucket v (on_bucket.tells d told random r)
AnyTells (any.InFlight d) told random r v = Same any.InFlight v (on_flight.tells d told random r)
AnyTells (any.Adaptive d) told random r v = Same any.Adaptive v (on_adaptive.tells d told random r)
AnyTells (any.Breaker d) told random r v = Same any.Breaker v (on_breaker.tells d told random r)
AnyTells (any.Throttle d) told random r v = Same any.Throttle v (window_asked.tells d told random r)

-- the part is of the same kind too
abbrev pub any_part : AnyLimit → AnyLimit
any_part (any.Bucket d) = any.Bucket (on_bucket.part d)
any_part (any.InFlight d) = any.InFlight (on_flight.part d)
any_part (any.Adaptive d) = any.Adaptive (on_adaptive.part d)
any_part (any.Breaker d) = any.Breaker (on_breaker.part d)
any_part (any.Throttle d) = any.Throttle (window_asked.part d)

abbrev pub any_left : AnyLimit → AnyLimit
any_left (any.Bucket d) = any.Bucket (on_bucket.left d)
any_left (any.InFlight d) = any.InFlight (on_flight.left d)
any_left (any.Adaptive d) = any.Adaptive (on_adaptive.left d)
any_left (any.Breaker d) = any.Breaker (on_breaker.left d)
any_left (any.Throttle d) = any.Throttle (window_asked.left d)

abbrev pub AnyUnsplit : AnyLimit → SplitFault → AnyLimit → Type 0
AnyUnsplit (any.Bucket d) why v = (v ≡ any.Bucket d) × Unsplit d.pass why
AnyUnsplit (any.InFlight d) why v = (v ≡ any.InFlight d) × Unsplit d.pass why
AnyUnsplit (any.Adaptive d) why v = (v ≡ any.Adaptive d) × Unsplit d.pass why
AnyUnsplit (any.Breaker d) why v = (v ≡ any.Breaker d) × Unsplit d.pass why
AnyUnsplit (any.Throttle d) why v = Same any.Throttle v (window_asked.unsplit d why)

abbrev pub any_asked : Asked AnyLimit
any_asked = record { tells = AnyTells; part = any_part; left = any_left; unsplit = AnyUnsplit }
