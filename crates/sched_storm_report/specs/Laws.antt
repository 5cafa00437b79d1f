-- What holds of every report.
use Rattle.std.specs.Prelude.{◌≡◌, ℕ, ◌+◌, ◌-◌, ◌≤◌, Bool, true, false, List, length, slice_get, count_by}
use Rattle.std.specs.Ordering.{nat_cmp}
use Rattle.std.specs.List.Sorted.{IsSorted}
use Rattle.sched_storm_report.specs.Counts.{calls_in, failed_in}
use Rattle.sched_storm_report.specs.Report.{at_percent}
use Rattle.sched_storm_report.specs.declared.moments.Happening.{Happening}
use Rattle.sched_storm_report.specs.declared.moments.Happening.TheVariants.{Refused}
use Rattle.sched_storm_report.specs.declared.moments.Moment.{Moment}
use Rattle.sched_storm_report.specs.declared.counts.Score.{Score}
use Rattle.sched_storm_report.specs.declared.report.Totals.{Totals}

-- a request is refused before its first call
abbrev pub is_turned_away : Happening → Bool
is_turned_away Refused = true
is_turned_away _ = false

abbrev pub turned_away : List Moment → ℕ
turned_away told = count_by (λ m. is_turned_away m.what) told

-- There is a time for each request that was won, and what is told are the times that 50 and 99 in 100 of them don't
-- pass and the longest.
pub record AreTimes (t : Totals) : Type 0 where
  pub times : List ℕ
  pub each : length times ≡ t.counts.won
  pub sorted : IsSorted nat_cmp times
  pub p50 : t.p50 ≡ at_percent 50 times
  pub p99 : t.p99 ≡ at_percent 99 times
  pub slowest : t.slowest ≡ slice_get times (length times - 1)

-- How the score of a list of moments adds up.
pub record ScoreAddsUp (told : List Moment) (s : Score) : Type 0 where
  -- each success ends a request of its own
  pub successes : s.all.succeeded ≡ s.all.won
  -- each request and each retry begins a call, but for a request that is refused before its first call
  pub calls : s.calls + turned_away told ≡ calls_in s.all
  -- each call that failed has ended its request, or a retry was granted for it
  pub failures : failed_in s.all + turned_away told ≡ s.lost + s.denied + s.granted
  -- each ticket is that of a retry that was granted
  pub tickets : s.tickets ≤ s.granted
