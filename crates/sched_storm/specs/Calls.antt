-- The peer: replicas, to which calls go in turn, each one queue, first come first served. Work is counted in units, of
-- which a call is 100,000.
use Rattle.std.specs.Prelude.{◌≡◌, ℕ, suc, zero, ◌+◌, ◌-◌, ◌*◌, ◌%◌, ◌<◌, ◌≤◌, max, Bool, ◌==◌, ◌&&◌}
use Rattle.std.specs.Prelude.{nat_lt, nat_le, if◌then◌else◌, MatchBool}
use Rattle.sched_storm_report.specs.Peer.{is_in, busy_at, with_busy}
use Rattle.sched_storm_report.specs.Peer as peer
use Rattle.sched_storm_report.specs.declared.moments.Failure.{Failure}
use Rattle.sched_storm_report.specs.declared.moments.Failure.TheVariants.{Refused, Shed, Late}
use Rattle.sched_storm_report.specs.declared.peer.Busy.{Busy}
use Rattle.sched_storm.specs.Parameters.{peer_of}
use Rattle.sched_storm.specs.declared.parameters.Parameters.{Parameters}
use Rattle.sched_storm.specs.declared.calls.CallEnd.TheVariants.{Succeeded, Failed}
use Rattle.sched_storm.specs.declared.calls.Called.{Called}

-- the replica that the storm's call of this number goes to, both from 0
abbrev pub replica_of : Parameters → ℕ → ℕ
replica_of p calls = calls % p.replicas

-- in the outage the first replicas refuse all calls
abbrev pub is_away : Parameters → ℕ → ℕ → Bool
is_away p replica t = is_in p.outage t && nat_lt replica p.down

-- the units that a replica can have done by a moment
abbrev pub can_be_done : Parameters → ℕ → ℕ
can_be_done p t = peer.can_be_done (peer_of p) t

-- the units of work that stand ahead of a call, where all work that its replica has taken is done at the unit `busy`
abbrev pub ahead : Parameters → ℕ → ℕ → ℕ
ahead p busy t = busy - can_be_done p t

-- so many units are as much as the queue may have: the call in service counts
abbrev pub is_full : Parameters → ℕ → Bool
is_full p units = if p.queue == 0 then nat_lt 0 units else nat_le (p.queue * 100000) units

-- the unit at which all work is done with one call more
abbrev pub busy_with : Parameters → ℕ → ℕ → ℕ
busy_with p busy t = max busy (can_be_done p t) + 100000

-- the least moment at which so many units can have been done
pub record IsDoneAt (p : Parameters) (units m : ℕ) : Type 0 where
  pub done : units ≤ can_be_done p m
  pub least : (k : ℕ) → k < m → can_be_done p k < units

-- a call fails as it comes, and its replica takes no work
abbrev pub Fails : Failure → ℕ → ℕ → Called → Type 0
Fails failure busy t c = c ≡ record { busy = busy; ends = t; how = Failed failure }

-- A call is taken, and its work is done in any case. Where that is after its client's patience the client gives it up;
-- else it succeeds when the work is done.
pub record IsTaken (p : Parameters) (busy t : ℕ) (c : Called) : Type 0 where
  pub busy_is : c.busy ≡ busy_with p busy t
  pub late : can_be_done p (t + p.patience) < c.busy → (c.how ≡ Failed Late) × (c.ends ≡ t + p.patience)
  pub in_time : c.busy ≤ can_be_done p (t + p.patience) → (c.how ≡ Succeeded) × IsDoneAt p c.busy c.ends

-- what becomes of a call that comes to a replica at a moment
abbrev pub IsCalled : Parameters → ℕ → ℕ → ℕ → Called → Type 0
IsCalled p replica busy t c = MatchBool (is_away p replica t)
    (Fails Refused busy t c)
    (MatchBool (is_full p (ahead p busy t)) (Fails Shed busy t c) (IsTaken p busy t c))

-- the first moment from `t` on at which so many units can have been done, or the one that is `n` later
unfoldable pub done_from : Parameters → ℕ → ℕ → ℕ → ℕ
done_from p units zero t = t
done_from p units (suc n) t = if nat_le units (can_be_done p t) then t else done_from p units n (t + 1)

-- the same as a function: what becomes of a call that is taken, and of any
abbrev pub taken : Parameters → ℕ → ℕ → Called
taken p units t = if nat_lt (can_be_done p (t + p.patience)) units
    then record { busy = units; ends = t + p.patience; how = Failed Late }
    else record { busy = units; ends = done_from p units p.patience t; how = Succeeded }

unfoldable pub called_at : Parameters → ℕ → ℕ → ℕ → Called
called_at p replica busy t = if is_away p replica t then record { busy = busy; ends = t; how = Failed Refused }
    else (if is_full p (ahead p busy t) then record { busy = busy; ends = t; how = Failed Shed }
    else taken p (busy_with p busy t) t)

-- what becomes of the storm's call of this number
abbrev pub called : Parameters → ℕ → Busy → ℕ → Called
called p calls busy t = let replica = replica_of p calls in called_at p replica (busy_at replica busy) t

-- what the replicas have taken after it
abbrev pub busy_after : Parameters → ℕ → Called → Busy → Busy
busy_after p calls c busy = with_busy (replica_of p calls) c.busy busy

-- no replica has more work than fits
pub record AreFew (busy : Busy) : Type 0 where
  pub first : busy.first ≤ 900000000000000
  pub second : busy.second ≤ 900000000000000
  pub third : busy.third ≤ 900000000000000
  pub fourth : busy.fourth ≤ 900000000000000
