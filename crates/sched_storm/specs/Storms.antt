-- Which lists of events are a storm, and which report is that of a storm.
use Rattle.std.specs.Prelude.{◌≡◌, ℕ, ◌≤◌, Bool, true, false, IsTrue, List, [], count_by, Option, Some, None}
use Rattle.sched_plan.specs.Schedule.{Schedule}
use Rattle.sched_storm_trace.specs.Trace.{Due, Event, NotAfter, IsBeginning, told_by}
use Rattle.sched_storm_report.specs.Report.{IsReport}
use Rattle.sched_storm_report.specs.declared.report.Ends.{Ends}
use Rattle.sched_storm_report.specs.declared.report.Report.{Report}
use Rattle.sched_storm_report.specs.Moments.{is_call}
use Rattle.sched_storm_report.specs.declared.moments.Moment.{Moment}
use Rattle.sched_storm.specs.Parameters.{peer_of, end_of_trouble}
use Rattle.sched_storm.specs.Plays.{Stage, Shared, start_at, first, played}
use Rattle.sched_storm.specs.Reported.{reported}
use Rattle.sched_storm.specs.declared.parameters.Parameters.{Parameters}

-- how many calls begin in these events: a request that is denied before its first call makes none
abbrev pub calls_of : List ℕ → Parameters → (ℕ → Schedule) → List (Event Stage) → ℕ
calls_of ms p plans events =
    count_by (λ (m : Moment). is_call m.what) (told_by (played p plans) (start_at ms p) events)

-- What is least due is a call, of this request, as it would be played next.
pub record CallIsNext (p : Parameters) (plans : ℕ → Schedule) (due : ℕ → Option (Due Stage))
    (last : Shared) : Type 0 where
  pub request : ℕ
  pub call : Due Stage
  pub is_due : due request ≡ Some call
  pub calls : IsTrue (is_call (played p plans last request call).told.what)
  pub least : (r : ℕ) (d : Due Stage) → due r ≡ Some d → NotAfter call.at request d.at r

-- A storm that is cut has as many calls as it may, and one more would be next. Of one that is not, nothing is due any
-- more.
abbrev pub EndsSo : List ℕ → Parameters → (ℕ → Schedule) → Bool → List (Event Stage) → (ℕ → Option (Due Stage)) →
    Shared → Type 0
EndsSo ms p plans true events due last = (calls_of ms p plans events ≡ p.calls) × CallIsNext p plans due last
EndsSo ms p plans false events due last = (calls_of ms p plans events ≤ p.calls) × ((r : ℕ) → due r ≡ None)

-- These events are the storm of requests of populations that have these plans. The requests come at these moments, or
-- by the rates where there are none.
pub record IsStorm (ms : List ℕ) (p : Parameters) (plans : ℕ → Schedule) (is_cut : Bool)
    (events : List (Event Stage)) : Type 0 where
  pub due : ℕ → Option (Due Stage)
  pub last : Shared
  pub plays : IsBeginning (played p plans) (first ms p) (start_at ms p) events due last
  pub ends : EndsSo ms p plans is_cut events due last

abbrev pub ends_of : Parameters → Bool → Ends
ends_of p is_cut = record { trouble = end_of_trouble p; is_cut = is_cut }

-- what these events come to, of all requests or of those of a population
abbrev pub IsReportOf : List ℕ → Parameters → (ℕ → Schedule) → Option ℕ → Bool → List (Event Stage) → Report → Type 0
IsReportOf ms p plans of is_cut events r =
    IsReport (peer_of p) (ends_of p is_cut) p.window (reported p plans of (start_at ms p) events) r

-- The report tells what became of the storm of requests of populations that have these plans, of all requests or of
-- those of one population: of some events that are the storm, and of all.
pub record ReportsOn (ms : List ℕ) (p : Parameters) (plans : ℕ → Schedule) (of : Option ℕ) (r : Report) : Type 0 where
  pub events : List (Event Stage)
  pub is_storm : IsStorm ms p plans r.totals.is_cut events
  pub told : IsReportOf ms p plans of r.totals.is_cut events r
  pub of_all : (is_cut : Bool) (es : List (Event Stage)) → IsStorm ms p plans is_cut es →
      IsReportOf ms p plans of is_cut es r

-- the report of the storm of requests that come by the rates and all have this plan
abbrev pub Reports : Parameters → Schedule → Report → Type 0
Reports p plan r = ReportsOn [] p (λ k. plan) None r
