-- What the peer can have done never falls, and how much it is at most.
use Rattle.std.proofs.Common.{ℕ, ◌-◌, ◌*◌, ◌≤◌, Option, Some, None, arith}
use Rattle.std.proofs.lemmas.Nat.{mul-le}
use Rattle.sched_storm_report.specs.Peer.{millis_in, work_by}
use Rattle.sched_storm_report.specs.declared.peer.Span.{Span}
use Rattle.sched_storm_report.specs.declared.peer.BrownOut.{BrownOut}
use Rattle.sched_storm.specs.Calls.{can_be_done}
use Rattle.sched_storm.specs.declared.parameters.Parameters.{Parameters}

millis_rise : (s : Span) (k m : ℕ) → k ≤ m → millis_in s k ≤ millis_in s m
millis_rise s k m h = omega arith

rest_rises : (s : Span) (k m : ℕ) → k ≤ m → k - millis_in s k ≤ m - millis_in s m
rest_rises s k m h = omega arith

work_rises : (slow : Option BrownOut) (k m : ℕ) → k ≤ m → work_by slow k ≤ work_by slow m
work_rises None k m h = omega arith
work_rises (Some b) k m h =
    let slowly = mul-le b.percent (millis_in b.span k) b.percent (millis_in b.span m) (omega arith)
    (millis_rise b.span k m h) in
    let fast = rest_rises b.span k m h in
    omega arith

pub done_rises : (p : Parameters) (k m : ℕ) → k ≤ m → can_be_done p k ≤ can_be_done p m
done_rises p k m h = mul-le p.capacity (work_by p.slow k) p.capacity (work_by p.slow m) (omega arith)
    (work_rises p.slow k m h)

pub millis-le : (s : Span) (t : ℕ) → millis_in s t ≤ t
millis-le s t = omega arith

-- where a percentage is one
pub slowly-le : (percent n : ℕ) → percent ≤ 100 → percent * n ≤ 100 * n
slowly-le percent n h = mul-le percent n 100 n h (omega arith)

pub done-le : (capacity work t : ℕ) → capacity ≤ 1000000 → work ≤ 100 * t → capacity * work ≤ 100000000 * t
done-le capacity work t few h = let most = mul-le capacity work 1000000 (100 * t) few h in omega arith
