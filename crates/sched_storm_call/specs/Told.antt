-- What C gives of a storm, and what it is told.
use Rattle.std.specs.Prelude.{◌≡◌, ℕ, ◌+◌, ◌-◌, ◌/◌, ◌≤◌, ◌==◌, if◌then◌else◌, Option, Some, None, is_some, unwrap_or}
use Rattle.std.specs.Prelude.{length}
use Rattle.sched_time.specs.declared.numbers.TheConstants.{FAR}
use Rattle.sched_storm.specs.Parameters.{AreInRange}
use Rattle.sched_storm_report.specs.declared.peer.BrownOut.{BrownOut}
use Rattle.sched_storm_limit.specs.declared.draws.Draws.{Draws}
use Rattle.sched_storm_limit.specs.declared.draws.Draws.TheVariants.{Nothing, Budget, Quota, Limited}
use Rattle.sched_storm_limit.specs.declared.draws.Limit.TheVariants as limit
use Rattle.sched_storm_limit.specs.Ranges.{IsLimit}
use Rattle.sched_ticket_quota.specs.Held.{AreTerms}
use Rattle.sched_limit.specs.Levels.{AreLevels}
use Rattle.sched_limit.specs.declared.bucket.Bucket.{Bucket}
use Rattle.sched_storm.specs.declared.parameters.Parameters.{Parameters}
use Rattle.sched_storm.specs.declared.populations.Population.{Population}
use Rattle.sched_storm.specs.declared.populations.Others.{Others}
use Rattle.sched_storm_report.specs.declared.tally.Window.{Window}
use Rattle.sched_storm_report.specs.declared.report.Report.{Report}
use Rattle.sched_storm_call.specs.declared.records.PopulationGiven.{PopulationGiven}
use Rattle.sched_storm_call.specs.declared.records.StormGiven.{StormGiven}
use Rattle.sched_storm_call.specs.declared.records.WindowTold.{WindowTold}
use Rattle.sched_storm_call.specs.declared.records.TotalsTold.{TotalsTold}

-- in the outage all replicas are down, where C does not tell how many
abbrev pub down_of : StormGiven → ℕ
down_of g = if g.down == 0 then g.replicas else g.down

-- a brown-out is given by its percentage
abbrev pub slow_of : StormGiven → Option BrownOut
slow_of g = if g.slow_percent == 0 then None
    else Some (record { span = record { from = g.slow_from; to = g.slow_to }; percent = g.slow_percent })

-- a population is given; 1 says that its retries draw on what those of the first one draw on
abbrev pub population_given : PopulationGiven → Population
population_given u = record { share = u.share; patience = u.patience; is_limited = u.limited == 1 }

abbrev pub others_of : StormGiven → Others
others_of g = record {
  second = population_given g.second;
  third = population_given g.third;
  fourth = population_given g.fourth;
}

-- the population, from 0, that the report is on; C counts them from 1, and says 0 for all requests
abbrev pub of_given : ℕ → Option ℕ
of_given k = if k == 0 then None else Some (k - 1)

abbrev pub bucket_of : StormGiven → Bucket
bucket_of g = record {
  capacity = g.bucket_capacity;
  floor = g.bucket_floor;
  debit = g.bucket_debit;
  credit = g.bucket_credit;
  refund = g.bucket_refund == 1;
}

-- what retries draw on is what is given of it
abbrev pub AreDrawsOf : StormGiven → Draws → Type 0
AreDrawsOf g Nothing = g.draws_on ≡ 0
AreDrawsOf g (Budget most) = (g.draws_on ≡ 1) × (most ≡ g.limit)
AreDrawsOf g (Quota terms) =
    (g.draws_on ≡ 2) × (terms ≡ record { reserve = g.reserve; share = g.share; period = g.period })
AreDrawsOf g (Limited (limit.Bucket b cost late)) =
    (g.draws_on ≡ 3) × (b ≡ bucket_of g) × (cost ≡ g.cost) × (late ≡ g.late_cost)
AreDrawsOf g (Limited (limit.InFlight k)) =
    (g.draws_on ≡ 4) × (k ≡ record { least = g.least; share = g.share; most = g.most })
AreDrawsOf g (Limited (limit.Breaker b)) =
    (g.draws_on ≡ 5) × (b.failures ≡ g.failures) × (b.results ≡ g.results) × (b.probes ≡ g.probes)
    × (b.deadline ≡ g.deadline) × (b.start ≡ 0) × (b.times ≡ g.open_times) × (b.last ≡ g.open_count - 1)
AreDrawsOf g (Limited (limit.Throttle t)) =
    (g.draws_on ≡ 6) × (t.ratio ≡ g.ratio) × (t.period ≡ g.period) × (t.start ≡ 0)
AreDrawsOf g (Limited (limit.Adaptive k)) =
    (g.draws_on ≡ 7) × (k.least ≡ g.least) × (k.most ≡ g.most) × (k.first ≡ g.first) × (k.backoff ≡ g.backoff)

abbrev pub parameters_of : StormGiven → Draws → Parameters
parameters_of g draws = record {
  rate = g.rate;
  rates = record { count = g.phase_count; phases = g.phases };
  together = g.together;
  seconds = g.seconds;
  capacity = g.capacity;
  patience = g.patience;
  queue = g.queue;
  replicas = g.replicas;
  outage = record { from = g.outage_from; to = g.outage_to };
  down = down_of g;
  slow = slow_of g;
  window = g.window;
  until = g.until;
  calls = g.calls;
  words = g.words;
  draws = draws;
  others = others_of g;
}

-- the parameters are those that are given
pub record IsOf (g : StormGiven) (p : Parameters) : Type 0 where
  pub draws : AreDrawsOf g p.draws
  pub are : p ≡ parameters_of g p.draws

-- where there is no brown-out its moments are 0
abbrev pub HasItsBrownOut : StormGiven → Type 0
HasItsBrownOut g = g.slow_percent ≡ 0 → (g.slow_from ≡ 0) × (g.slow_to ≡ 0)

-- each population is limited, or is not
pub record ArePopulationsGiven (g : StormGiven) : Type 0 where
  pub second : g.second.limited ≤ 1
  pub third : g.third.limited ≤ 1
  pub fourth : g.fourth.limited ≤ 1

-- the report is on all requests, or on those of a population that there is
pub record IsOnSome (g : StormGiven) : Type 0 where
  pub few : g.of ≤ 4
  pub second : g.of ≡ 2 → 1 ≤ g.second.share
  pub third : g.of ≡ 3 → 1 ≤ g.third.share
  pub fourth : g.of ≡ 4 → 1 ≤ g.fourth.share

pub record IsFlightGiven (g : StormGiven) : Type 0 where
  pub least : g.least ≤ 4294967295
  pub share : g.share ≤ 4294967295
  pub most : g.most ≤ 4294967295

pub record IsAdaptiveGiven (g : StormGiven) : Type 0 where
  pub levels : AreLevels g.least g.most g.first
  pub some : 1 ≤ g.backoff
  pub below : g.backoff ≤ 999

pub record IsBreakerGiven (g : StormGiven) : Type 0 where
  pub failures : 1 ≤ g.failures
  pub few_failures : g.failures ≤ 4294967295
  pub few_results : g.results ≤ 32
  pub of_results : 1 ≤ g.results → g.failures ≤ g.results
  pub probes : 1 ≤ g.probes
  pub few_probes : g.probes ≤ 15
  pub deadline : g.deadline ≤ FAR
  pub times : 1 ≤ g.open_count
  pub few_times : g.open_count ≤ 64

pub record IsThrottleGiven (g : StormGiven) : Type 0 where
  pub ratio : 1000 ≤ g.ratio
  pub few : g.ratio ≤ 4294967295
  pub period : 1 ≤ g.period
  pub near : g.period ≤ FAR

-- nothing is given, or a budget, a quota or a limit whose numbers can be those of one
pub record AreDrawsGiven (g : StormGiven) : Type 0 where
  pub kinds : g.draws_on ≤ 7
  pub period : g.draws_on ≡ 2 → g.period ≤ FAR
  pub bucket : g.draws_on ≡ 3 → g.bucket_refund ≤ 1
  pub in_flight : g.draws_on ≡ 4 → IsFlightGiven g
  pub breaker : g.draws_on ≡ 5 → IsBreakerGiven g
  pub throttle : g.draws_on ≡ 6 → IsThrottleGiven g
  pub adaptive : g.draws_on ≡ 7 → IsAdaptiveGiven g

-- a budget, a quota or a bucket that is given is in its range
pub record AreDrawsInRange (g : StormGiven) : Type 0 where
  pub budget : g.draws_on ≡ 1 → g.limit ≤ 4294967296
  pub quota : g.draws_on ≡ 2 → AreTerms (record { reserve = g.reserve; share = g.share; period = g.period })
  pub bucket : g.draws_on ≡ 3 → IsLimit (limit.Bucket (bucket_of g) g.cost g.late_cost)

-- a storm is given
pub record IsGiven (g : StormGiven) : Type 0 where
  pub slow : HasItsBrownOut g
  pub populations : ArePopulationsGiven g
  pub report_on : IsOnSome g
  pub draws : AreDrawsGiven g
  pub draws_in_range : AreDrawsInRange g
  pub in_range : AreInRange (parameters_of g Nothing)

-- the most windows that a storm has
abbrev pub room_of : Parameters → ℕ
room_of p = p.until / p.window + 1

abbrev pub room_given : StormGiven → ℕ
room_given g = g.until / g.window + 1

abbrev pub window_told : Window → WindowTold
window_told w = record {
  from = w.from;
  requests = w.counts.requests;
  won = w.counts.won;
  retries = w.counts.retries;
  succeeded = w.counts.succeeded;
  refused = w.counts.refused;
  shed = w.counts.shed;
  late = w.counts.late;
  waiting = w.waiting;
}

abbrev pub totals_told : Report → TotalsTold
totals_told r = record {
  windows = length r.windows.items;
  requests = r.totals.counts.requests;
  won = r.totals.counts.won;
  lost = r.totals.lost;
  denied = r.totals.denied;
  «open» = r.totals.open;
  calls = r.totals.calls;
  hundredths = r.totals.hundredths;
  most_calls = r.totals.most_calls;
  most_from = r.totals.most_from;
  tickets = r.totals.tickets;
  p50 = unwrap_or r.totals.p50 0;
  p99 = unwrap_or r.totals.p99 0;
  slowest = unwrap_or r.totals.slowest 0;
  recovered = unwrap_or r.totals.recovered 0;
  recovers = is_some r.totals.recovered;
  cut = r.totals.is_cut;
}
