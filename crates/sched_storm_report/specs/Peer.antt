-- The peer: up to four replicas, each one queue, first come first served. Work is counted in units, of which a call is
-- 100,000.
use Rattle.std.specs.Prelude.{ℕ, suc, zero, ◌-◌, ◌+◌, ◌*◌, ◌/◌, ◌≤◌, min, Bool, ◌&&◌, nat_lt, nat_le}
use Rattle.std.specs.Prelude.{Option, Some, None}
use Rattle.sched_storm_report.specs.declared.peer.Span.{Span}
use Rattle.sched_storm_report.specs.declared.peer.BrownOut.{BrownOut}
use Rattle.sched_storm_report.specs.declared.peer.Peer.{Peer}
use Rattle.sched_storm_report.specs.declared.peer.Busy.{Busy}

abbrev pub is_in : Span → ℕ → Bool
is_in s t = nat_le s.from t && nat_lt t s.to

pub record IsSpan (s : Span) : Type 0 where
  pub ordered : s.from ≤ s.to
  pub early : s.to ≤ 3600000

pub record IsBrownOut (b : BrownOut) : Type 0 where
  pub span : IsSpan b.span
  pub some : 1 ≤ b.percent
  pub part : b.percent ≤ 100

abbrev pub IsSlow : Option BrownOut → Type 0
IsSlow None = Unit {0}
IsSlow (Some b) = IsBrownOut b

pub record IsPeer (p : Peer) : Type 0 where
  pub capacity : p.capacity ≤ 1000000
  pub slow : IsSlow p.slow

-- how many milliseconds of the span lie before a moment
abbrev pub millis_in : Span → ℕ → ℕ
millis_in s t = min t s.to - s.from

-- the units that a peer of one call a second can have done by a moment: 100 in each millisecond before it, and as many
-- as the brown-out's percentage in each that lies in it
abbrev pub work_by : Option BrownOut → ℕ → ℕ
work_by None t = 100 * t
work_by (Some b) t = 100 * (t - millis_in b.span t) + b.percent * millis_in b.span t

-- the units that a replica can have done by a moment
abbrev pub can_be_done : Peer → ℕ → ℕ
can_be_done p t = p.capacity * work_by p.slow t

-- the unit at which a replica is done with all work that it has taken
abbrev pub busy_at : ℕ → Busy → ℕ
busy_at zero b = b.first
busy_at (suc zero) b = b.second
busy_at (suc (suc zero)) b = b.third
busy_at _ b = b.fourth

-- a replica is done with all at this unit
abbrev pub with_busy : ℕ → ℕ → Busy → Busy
with_busy zero unit b = record b { first = unit }
with_busy (suc zero) unit b = record b { second = unit }
with_busy (suc (suc zero)) unit b = record b { third = unit }
with_busy _ unit b = record b { fourth = unit }

abbrev pub none_busy : Busy
none_busy = record { first = 0; second = 0; third = 0; fourth = 0 }

-- the calls of work that stand at a replica at a moment, rounded down, where it is done with all at the unit `busy`
abbrev pub standing_at : Peer → ℕ → ℕ → ℕ
standing_at p busy t = (busy - can_be_done p t) / 100000

-- the calls of work that stand at the peer's replicas at a moment
abbrev pub waiting_at : Peer → Busy → ℕ → ℕ
waiting_at p b t = standing_at p b.first t + standing_at p b.second t + standing_at p b.third t
    + standing_at p b.fourth t
