-- How a storm is played: what becomes of a request where something is due of it.
use Rattle.std.specs.Prelude.{ℕ, ◌+◌, Bool, true, false, nat_lt, nat_le, if◌then◌else◌, List, [], Option}
use Rattle.std.specs.Prelude.{Some, None}
use Rattle.rand_core.specs.Stream.{Stream}
use Rattle.rand_core.specs.Steps.{stream_of, steps_u32}
use Rattle.rand_xoshiro.specs.Xoshiro128.{of_seed, plus_plus}
use Rattle.rand_xoshiro.specs.SplitMix64.{splitmix_seed}
use Rattle.sched_time.specs.Decision.{start_of}
use Rattle.sched_plan.specs.Schedule.{Schedule}
use Rattle.sched_plan.specs.Answer.{answer}
use Rattle.sched_plan.specs.declared.history.Event.{Event}
use Rattle.sched_task.specs.Words.{next_four}
use Rattle.sched_storm_trace.specs.Trace.{Due, Answer}
use Rattle.sched_storm_report.specs.declared.moments.Failure.{Failure}
use Rattle.sched_storm_report.specs.declared.moments.Failure.TheVariants.{Late}
use Rattle.sched_storm_report.specs.declared.moments.Then.{Then}
use Rattle.sched_storm_report.specs.declared.moments.Then.TheVariants.{Lost, Denied, Waits}
use Rattle.sched_storm_report.specs.declared.moments.Happening.{Happening}
use Rattle.sched_storm_report.specs.Peer.{none_busy}
use Rattle.sched_storm_report.specs.declared.moments.Happening.TheVariants as happening
use Rattle.sched_storm_report.specs.declared.moments.Moment.{Moment}
use Rattle.sched_storm_report.specs.declared.peer.Busy.{Busy}
use Rattle.sched_storm_limit.specs.Limits as limits
use Rattle.sched_storm_limit.specs.Limits.{LimitState, state_at_first}
use Rattle.sched_storm_limit.specs.Ranges.{has_draws}
use Rattle.sched_storm.specs.Populations.{population_of, storm_of}
use Rattle.sched_storm.specs.Arrivals.{all_requests, comes_at}
use Rattle.sched_storm.specs.Calls.{called, busy_after}
use Rattle.sched_storm.specs.Tickets.{none_drawn, counted, draw_at}
use Rattle.sched_storm.specs.Drivers.{input_of, with_failure}
use Rattle.sched_storm.specs.declared.parameters.Parameters.{Parameters}
use Rattle.sched_storm.specs.declared.calls.CallEnd.{CallEnd}
use Rattle.sched_storm.specs.declared.calls.CallEnd.TheVariants.{Succeeded, Failed}
use Rattle.sched_storm.specs.declared.calls.Called.{Called}
use Rattle.sched_storm.specs.declared.tickets.Drawn.{Drawn}

-- What is due of a request: its first call; a retry, where its driver was given these failures; the end of a call that
-- succeeds; the end of one that fails so, where its driver was given these failures before.
pub data Stage : Type 0 where
  begins : Stage
  retries : List Event → Stage
  succeeds : Stage
  fails : Failure → List Event → Stage

-- what the requests share: the moments at which they come, where these are given; what the peer's replicas have taken,
-- how many calls began, the random words to come, the tickets, and the limit with what each request holds of it
pub record Shared : Type 0 where
  pub arrivals : List ℕ
  pub busy : Busy
  pub calls : ℕ
  pub words : Stream
  pub drawn : Drawn
  pub limit : LimitState

-- the random words of a state of the generator
abbrev pub words_of : List ℕ → Stream
words_of state = stream_of (steps_u32 plus_plus) state

-- before the first event
abbrev pub start_at : List ℕ → Parameters → Shared
start_at ms p = record {
  arrivals = ms;
  busy = none_busy;
  calls = 0;
  words = words_of (of_seed (splitmix_seed 16 p.words));
  drawn = none_drawn;
  limit = state_at_first p.draws p.words;
}

-- what lies after this moment is not played
abbrev pub if_by : ℕ → ℕ → Stage → Option (Due Stage)
if_by until t what = if nat_le t until then Some (record { at = t; what = what }) else None

-- what is due of a request at first
abbrev pub first : List ℕ → Parameters → ℕ → Option (Due Stage)
first ms p r = if nat_lt r (all_requests ms p) then if_by p.until (comes_at ms p r) begins else None

-- how a call ends, where its request's driver was given these failures
abbrev pub ending : CallEnd → List Event → Stage
ending Succeeded h = succeeds
ending (Failed failure) h = fails failure h

abbrev pub moment_at : ℕ → Happening → Shared → Moment
moment_at t what s = record { at = t; what = what; busy = s.busy }

-- a call is taken, or not, and counted
abbrev pub with_call : Parameters → Called → Shared → Shared
with_call p c s = record s { busy = busy_after p s.calls c s.busy; calls = s.calls + 1 }

-- A call comes to the peer.
abbrev pub coming : Parameters → Shared → ℕ → List Event → Happening → Called → Answer Stage Shared Moment
coming p s t h what c = let after = with_call p c s in
    record { next = if_by p.until c.ends (ending c.how h); shared = after; told = moment_at t what after }

-- a call failed, and its request is over: nothing is due of it any more
abbrev pub ended : Parameters → Shared → ℕ → ℕ → Failure → Then → Answer Stage Shared Moment
ended p s r t failure next = record {
  next = None;
  shared = record s { limit = limits.ending p.draws r s.limit };
  told = moment_at t (happening.Failed failure next) s;
}

-- A retry was granted, or was not: it is due, or its request is denied.
abbrev pub drawing : Parameters → Shared → ℕ → ℕ → Failure → List Event → ℕ → Bool → Answer Stage Shared Moment
drawing p s r t failure h start true =
    record {
      next = if_by p.until start (retries h);
      shared = s;
      told = moment_at t (happening.Failed failure (Waits (has_draws p.draws))) s;
    }
drawing p s r t failure h start false = ended p s r t failure Denied

-- a call came late, after which a bucket's draw may cost more
abbrev pub is_late : Failure → Bool
is_late Late = true
is_late _ = false

-- The policy goes on at a start, for which the limit is asked or a ticket drawn, or is done.
abbrev pub going_on : Parameters → Shared → ℕ → ℕ → Failure → List Event → Option ℕ → Answer Stage Shared Moment
going_on p s r t failure h None = ended p s r t failure Lost
going_on p s r t failure h (Some start) =
    let asked = limits.drawing p.draws (is_late failure) t r s.limit in
    let drawn = draw_at p.draws asked.0 t s.drawn in
    drawing p (record s { drawn = drawn.1; limit = asked.1 }) r t failure h start drawn.0

-- The limit is told of the failure. The driver is given it and the next four words, and plans what the policy's
-- definition plans.
abbrev pub failing : Parameters → Schedule → Shared → ℕ → ℕ → Failure → List Event → Answer Stage Shared Moment
failing p plan s r t failure before = let words = next_four s.words in
    let h = with_failure before t words.0 (input_of failure) in
    going_on p (record s { words = words.1; limit = limits.failing p.draws t r s.limit }) r t failure h
    (start_of (answer plan h).decision)

-- A request that comes is counted, where its retries draw on anything, before anything else of it. Where the limit
-- admits it its first call comes to the peer, and else it is denied and makes no call.
abbrev pub with_request : Parameters → ℕ → Shared → Shared
with_request p t s = record s { drawn = counted p.draws t s.drawn }

abbrev pub arriving : Parameters → Shared → ℕ → Bool → Answer Stage Shared Moment
arriving p s t true = coming p s t [] happening.Request (called p s.calls s.busy t)
arriving p s t false = record { next = None; shared = s; told = moment_at t happening.Refused s }

-- What becomes of a request of a population where something is due of it at a moment.
abbrev pub playing : Parameters → Schedule → Shared → ℕ → ℕ → Stage → Answer Stage Shared Moment
playing p plan s r t begins = let asked = limits.admitting p.draws t r s.limit in
    arriving p (with_request p t (record s { limit = asked.1 })) t asked.0
playing p plan s r t (retries h) = coming p s t h happening.Retry (called p s.calls s.busy t)
playing p plan s r t succeeds = record {
  next = None;
  shared = record s { limit = limits.succeeding p.draws t r s.limit };
  told = moment_at t (happening.Won (comes_at s.arrivals p r)) s;
}
playing p plan s r t (fails failure h) = failing p plan s r t failure h

-- What becomes of a request of any population, each of which has its plan.
abbrev pub played : Parameters → (ℕ → Schedule) → Shared → ℕ → Due Stage → Answer Stage Shared Moment
played p plans s r due = playing (storm_of p r) (plans (population_of p r)) s r due.at due.what
