-- What holds of the report of every storm.
use Rattle.std.specs.Prelude.{◌≡◌, ℕ, ◌+◌, ◌-◌, ◌/◌, ◌≤◌, false, IsTrue, List, vec_len}
use Rattle.sched_storm_report.specs.Counts.{no_counts, calls_in, failed_in, ended_in, AddUpTo}
use Rattle.sched_storm_report.specs.Report.{hundredths_of, recovered_in}
use Rattle.sched_storm_report.specs.Laws.{AreTimes}
use Rattle.sched_storm_report.specs.declared.report.Report.{Report}
use Rattle.sched_storm_report.specs.declared.report.Totals.{Totals}
use Rattle.sched_storm_limit.specs.Ranges.{is_limited}
use Rattle.sched_storm.specs.Parameters.{end_of_trouble}
use Rattle.sched_storm.specs.Arrivals.{all_requests}
use Rattle.sched_storm.specs.Populations.{draws_of, AllDraw}
use Rattle.sched_storm.specs.Tickets.{tickets_of, HasUses, AreFew}
use Rattle.sched_storm.specs.declared.parameters.Parameters.{Parameters}

-- the requests that a limit denied before their first call: they make none
abbrev pub turned_away_in : Totals → ℕ
turned_away_in t = calls_in t.counts - t.calls

-- In each window of a quota the tickets never pass its reserve and the share of the requests counted in it. Those of
-- populations that draw on nothing are not counted.
pub record AreInWindows (p : Parameters) (requests tickets : ℕ) : Type 0 where
  pub window : ℕ
  pub asked : ℕ
  pub uses : HasUses p.draws window asked tickets
  pub few : asked ≤ requests
  pub all : AllDraw p → asked ≡ requests

-- Each call that failed has ended its request, or a retry was granted for it. No retry began that was not granted, and
-- each that was granted has its ticket, where the retries of all populations draw on anything.
pub record AreGranted (p : Parameters) (t : Totals) : Type 0 where
  pub granted : ℕ
  pub failures : failed_in t.counts + turned_away_in t ≡ t.lost + t.denied + granted
  pub retries : t.counts.retries ≤ granted
  pub few : t.tickets ≤ granted
  pub tickets : AllDraw p → t.tickets ≡ tickets_of p.draws granted
  pub uses : ∥ AreInWindows p t.counts.requests t.tickets ∥₁
  -- in all they never pass what the budget or the quota allows
  pub limit : AreFew p.draws p.until t.counts.requests t.tickets

-- where requests come at these moments, or by the rates
pub record AddsUp (ms : List ℕ) (p : Parameters) (r : Report) : Type 0 where
  -- what the windows count makes up the totals, and they are no more than there are until the end
  pub windows : AddUpTo r.windows.items no_counts r.totals.counts
  pub few_windows : vec_len r.windows ≤ p.until / p.window + 1
  -- each request ends in one way, or is open
  pub endings : r.totals.counts.won + r.totals.lost + r.totals.denied + r.totals.open ≡ r.totals.counts.requests
  -- each success ends a request of its own
  pub successes : r.totals.counts.succeeded ≡ r.totals.counts.won
  -- each request and each retry begins a call, but for a request that is denied before it
  pub calls : r.totals.calls ≤ calls_in r.totals.counts
  pub turned_away : turned_away_in r.totals ≤ r.totals.denied
  pub none_away : ((k : ℕ) → is_limited (draws_of p k) ≡ false) → r.totals.calls ≡ calls_in r.totals.counts
  pub hundredths : r.totals.hundredths ≡ hundredths_of r.totals.calls r.totals.counts.requests
  pub times : AreTimes r.totals
  pub recovered : r.totals.recovered ≡ recovered_in (end_of_trouble p) r.windows.items
  -- each call ends once, or never in the storm
  pub ended : ended_in r.totals.counts ≤ r.totals.calls
  pub retries : AreGranted p r.totals
  pub requests : r.totals.counts.requests ≤ all_requests ms p
  pub few : r.totals.calls ≤ p.calls
  -- a storm that is cut has made as many calls as it may
  pub cut : IsTrue r.totals.is_cut → r.totals.calls ≡ p.calls
