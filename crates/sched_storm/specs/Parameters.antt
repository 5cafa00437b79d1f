-- The parameters of a storm: which are in range, and when each request comes.
use Rattle.std.specs.Prelude.{ℕ, ◌+◌, ◌*◌, ◌/◌, ◌≤◌, max, Option, Some, None}
use Rattle.sched_storm_report.specs.Peer.{IsSpan, IsSlow}
use Rattle.sched_storm_report.specs.declared.peer.BrownOut.{BrownOut}
use Rattle.sched_storm_report.specs.declared.peer.Peer.{Peer}
use Rattle.sched_storm_limit.specs.Ranges.{AreDraws}
use Rattle.sched_storm.specs.Rates.{phases_of, AreRates, thousandths_by, arrives}
use Rattle.sched_storm.specs.Populations.{AreOthers}
use Rattle.sched_storm.specs.declared.parameters.Parameters.{Parameters}

-- the peer that the calls come to, as each of its replicas works
abbrev pub peer_of : Parameters → Peer
peer_of p = record { capacity = p.capacity; slow = p.slow }

abbrev pub end_of_slow : Option BrownOut → ℕ
end_of_slow None = 0
end_of_slow (Some b) = b.span.to

-- when the outage and the brown-out are over
abbrev pub end_of_trouble : Parameters → ℕ
end_of_trouble p = max p.outage.to (end_of_slow p.slow)

-- how many requests come by the rates, where `until` allows: those whose own moment lies before the end of the seconds
abbrev pub requests_by_rate : Parameters → ℕ
requests_by_rate p = (thousandths_by p.rate 0 (phases_of p.rates) (p.seconds * 1000) + 999) / 1000

-- the moment at which a request begins its first call by the rates: that of the first of those that come together
abbrev pub comes_by_rate : Parameters → ℕ → ℕ
comes_by_rate p r = arrives p.rate 0 (phases_of p.rates) (r / p.together * p.together * 1000)

pub record RequestsAreInRange (p : Parameters) : Type 0 where
  pub some : 1 ≤ p.rate
  pub rate : p.rate ≤ 1000000
  pub herd : 1 ≤ p.together
  pub together : p.together ≤ 1000000
  pub one : 1 ≤ p.seconds
  pub seconds : p.seconds ≤ 3600
  pub rates : AreRates p.rates
  pub all : requests_by_rate p ≤ 1048576

pub record PeerIsInRange (p : Parameters) : Type 0 where
  pub some : 1 ≤ p.capacity
  pub capacity : p.capacity ≤ 1000000
  pub one : 1 ≤ p.patience
  pub patience : p.patience ≤ 3600000
  pub queue : p.queue ≤ 1048576
  pub replica : 1 ≤ p.replicas
  pub replicas : p.replicas ≤ 4
  pub outage : IsSpan p.outage
  pub away : 1 ≤ p.down
  pub down : p.down ≤ p.replicas
  pub slow : IsSlow p.slow

pub record ReportIsInRange (p : Parameters) : Type 0 where
  pub some : 1 ≤ p.window
  pub window : p.window ≤ 3600000
  pub few : p.until / p.window ≤ 65536
  pub until : p.until ≤ 7200000
  pub one : 1 ≤ p.calls
  pub calls : p.calls ≤ 4294967296

-- each parameter is in its range
pub record AreInRange (p : Parameters) : Type 0 where
  pub requests : RequestsAreInRange p
  pub peer : PeerIsInRange p
  pub report : ReportIsInRange p
  pub draws : AreDraws p.draws
  pub others : AreOthers p.others
