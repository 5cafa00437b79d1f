-- Worked rows of populations and of a storm by moments, computed with the definitions alone.
use Rattle.std.specs.Prelude.{◌≡◌, ℕ, ◌==◌, false, List, [], ◌∷◌, map, count_by, Option, Some, None, refl}
use Rattle.std.specs.List.{range_with_len}
use Rattle.sched_plan.specs.Schedule.{Schedule}
use Rattle.sched_storm_trace.specs.Trace.{Due, Event, told_by}
use Rattle.sched_storm_report.specs.Peer.{none_busy}
use Rattle.sched_storm_report.specs.declared.moments.Happening.{Happening}
use Rattle.sched_storm_report.specs.declared.moments.Happening.TheVariants.{Request, Won}
use Rattle.sched_storm_report.specs.declared.moments.Moment.{Moment}
use Rattle.sched_storm_limit.specs.declared.draws.Draws.TheVariants.{Nothing}
use Rattle.sched_storm.specs.Arrivals.{all_requests, comes_at}
use Rattle.sched_storm.specs.Calls.{done_from, called_at}
use Rattle.sched_storm.specs.Plays.{Stage, begins, succeeds, start_at, first, played}
use Rattle.sched_storm.specs.Populations.{place_of, population_at}
use Rattle.sched_storm.specs.declared.populations.Population.{Population}
use Rattle.sched_storm.specs.declared.populations.Others.{Others}
use Rattle.sched_storm.specs.declared.parameters.Parameters.{Parameters}

abbrev clients : ℕ → Population
clients share = record { share = share; patience = 500; is_limited = false }

-- a second population of 30 requests in a hundred, and a fourth of 20
abbrev others : Others
others = record { second = clients 30; third = clients 0; fourth = clients 20 }

abbrev whose : ℕ → ℕ
whose r = population_at others (place_of r)

-- their places are 0, 61, 22, 83, 44, 5, 66, 27, 88, 49 and 10
first_requests : map whose (range_with_len 0 11) ≡
    1 ∷ 0 ∷ 1 ∷ 0 ∷ 3 ∷ 1 ∷ 0 ∷ 1 ∷ 0 ∷ 3 ∷ 1 ∷ []
first_requests = refl

abbrev of_population : ℕ → List ℕ → ℕ
of_population k requests = count_by (λ r. whose r == k) requests

-- each hundred has each population's share, whichever hundred it is
first_hundred : map (λ k. of_population k (range_with_len 0 100)) (0 ∷ 1 ∷ 2 ∷ 3 ∷ []) ≡ 50 ∷ 30 ∷ 0 ∷ 20 ∷ []
first_hundred = refl

later_hundred : map (λ k. of_population k (range_with_len 47 100)) (0 ∷ 1 ∷ 2 ∷ 3 ∷ []) ≡ 50 ∷ 30 ∷ 0 ∷ 20 ∷ []
later_hundred = refl

-- ---- requests at moments that are given

abbrev moments : List ℕ
moments = 0 ∷ 5 ∷ 5 ∷ 101 ∷ []

-- each comes at the moment of its own place, whatever the rates are
each_at_its_own : (p : Parameters) → map (comes_at moments p) (range_with_len 0 4) ≡ moments
each_at_its_own p = refl

all_of_them : (p : Parameters) → all_requests moments p ≡ 4
all_of_them p = refl

-- a peer that does a call in a millisecond, until 100 ms
abbrev well : Parameters
well = record {
  rate = 800;
  rates = record { count = 0; phases = [] };
  together = 1;
  seconds = 60;
  capacity = 1000;
  patience = 500;
  queue = 5000;
  replicas = 1;
  outage = record { from = 0; to = 0 };
  down = 1;
  slow = None;
  window = 1000;
  until = 100;
  calls = 100;
  words = 0;
  draws = Nothing;
  others = record { second = clients 0; third = clients 0; fourth = clients 0 };
}

abbrev due : ℕ → Stage → Option (Due Stage)
due at what = Some (record { at = at; what = what })

-- the last one comes after the end, and a fifth one never
at_first : map (first moments well) (range_with_len 0 5) ≡
    due 0 begins ∷ due 5 begins ∷ due 5 begins ∷ None ∷ None ∷ []
at_first = refl

abbrev event : ℕ → ℕ → Stage → Option (Due Stage) → Event Stage
event request at what next = record { request = request; due = record { at = at; what = what }; next = next }

-- the third waits for the second, which comes at the same moment
abbrev events : List (Event Stage)
events =
    event 0 0 begins (due 1 succeeds) ∷ event 0 1 succeeds None ∷ event 1 5 begins (due 6 succeeds) ∷
    event 2 5 begins (due 7 succeeds) ∷ event 1 6 succeeds None ∷ event 2 7 succeeds None ∷ []

abbrev told : ℕ → Happening → ℕ → Moment
told at what busy = record { at = at; what = what; busy = record none_busy { first = busy } }

what_is_told : (plans : ℕ → Schedule) → told_by (played well plans) (start_at moments well) events ≡
    told 0 Request 100000 ∷ told 1 (Won 0) 100000 ∷ told 5 Request 600000 ∷ told 5 Request 700000 ∷
    told 6 (Won 5) 700000 ∷ told 7 (Won 5) 700000 ∷ []
unfolding called_at done_from
what_is_told plans = refl
