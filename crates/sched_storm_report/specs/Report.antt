-- The report of a storm, as a function of the moments that were told.
use Rattle.std.specs.Prelude.{◌≡◌, ℕ, ◌+◌, ◌-◌, ◌*◌, ◌/◌, max, Bool, true, false, ◌==◌, ◌&&◌, ◌||◌, nat_lt, nat_le}
use Rattle.std.specs.Prelude.{if◌then◌else◌}
use Rattle.std.specs.Prelude.{List, [], ◌∷◌, length, map, slice_get, Option, Some, None}
use Rattle.std.specs.Int.{div_ceil}
use Rattle.std.specs.List.{range_with_len}
use Rattle.sched_storm_report.specs.Peer.{none_busy, waiting_at}
use Rattle.sched_storm_report.specs.Counts.{calls_in}
use Rattle.sched_storm_report.specs.Moments.{counts_where, is_in_window, score_of, times_of, latest, busy_by}
use Rattle.sched_storm_report.specs.declared.moments.Moment.{Moment}
use Rattle.sched_storm_report.specs.declared.counts.Score.{Score}
use Rattle.sched_storm_report.specs.declared.peer.Peer.{Peer}
use Rattle.sched_storm_report.specs.declared.tally.Window.{Window}
use Rattle.sched_storm_report.specs.declared.report.Ends.{Ends}
use Rattle.sched_storm_report.specs.declared.report.Report.{Report}
use Rattle.sched_storm_report.specs.declared.report.Totals.{Totals}

-- The window of this number. Its requests count as won where they began, whenever that was told; the work that stands
-- at its end is work that was taken before its end.
abbrev pub window_of : Peer → ℕ → List Moment → ℕ → Window
window_of peer window told n = let end = n * window + window in record {
  from = n * window;
  counts = counts_where (is_in_window window n) told;
  waiting = waiting_at peer (busy_by end none_busy told) end;
}

-- the windows from 0 to that of the last moment
abbrev pub windows_of : Peer → ℕ → List Moment → List Window
windows_of peer window told = map (window_of peer window told) (range_with_len 0 (latest 0 told / window + 1))

-- the calls for each request, in hundredths to the nearest, halves up
abbrev pub hundredths_of : ℕ → ℕ → ℕ
hundredths_of calls requests = if requests == 0 then 0 else (200 * calls + requests) / (2 * requests)

-- the most calls that began in a window, and the first moment of the first window in which so many began
abbrev pub most_in : List Window → ℕ
most_in [] = 0
most_in (w ∷ ws) = max (calls_in w.counts) (most_in ws)

abbrev pub first_with : ℕ → List Window → ℕ
first_with calls [] = 0
first_with calls (w ∷ ws) = if calls_in w.counts == calls then w.from else first_with calls ws

-- numbers in ascending order
abbrev pub put_in_order : ℕ → List ℕ → List ℕ
put_in_order x [] = x ∷ []
put_in_order x (y ∷ ys) = if nat_le x y then x ∷ y ∷ ys else y ∷ put_in_order x ys

abbrev pub in_order : List ℕ → List ℕ
in_order [] = []
in_order (x ∷ xs) = put_in_order x (in_order xs)

-- of times that ascend the one that so many in 100 don't pass: the ceil(n * percent / 100)-th of all n
abbrev pub at_percent : ℕ → List ℕ → Option ℕ
at_percent percent times = slice_get times (div_ceil (length times * percent) 100 - 1)

-- at least 99 in 100 of the requests that began in it were won
abbrev pub passes : Window → Bool
passes w = nat_le (99 * w.counts.requests) (100 * w.counts.won)

abbrev pub all_pass : List Window → Bool
all_pass [] = true
all_pass (w ∷ ws) = passes w && all_pass ws

abbrev pub have_requests : List Window → Bool
have_requests [] = false
have_requests (w ∷ ws) = nat_lt 0 w.counts.requests || have_requests ws

-- The first moment of the first window that begins once all is over, where it and all later ones pass and a request
-- begins from it on.
abbrev pub recovered_in : ℕ → List Window → Option ℕ
recovered_in end [] = None
recovered_in end (w ∷ ws) = if nat_le end w.from && (all_pass (w ∷ ws) && have_requests (w ∷ ws)) then Some w.from
    else recovered_in end ws

-- what these windows, this score and these times come to in all
abbrev pub totals_of : Ends → List Window → Score → List ℕ → Totals
totals_of ends windows score times = record {
  counts = score.all;
  lost = score.lost;
  denied = score.denied;
  «open» = score.all.requests - (score.all.won + score.lost + score.denied);
  calls = score.calls;
  hundredths = hundredths_of score.calls score.all.requests;
  most_calls = most_in windows;
  most_from = first_with (most_in windows) windows;
  tickets = score.tickets;
  p50 = at_percent 50 times;
  p99 = at_percent 99 times;
  slowest = slice_get times (length times - 1);
  recovered = recovered_in ends.trouble windows;
  is_cut = ends.is_cut;
}

-- The report of these moments.
pub record IsReport (peer : Peer) (ends : Ends) (window : ℕ) (told : List Moment) (r : Report) : Type 0 where
  pub windows : r.windows.items ≡ windows_of peer window told
  pub totals : r.totals ≡ totals_of ends (windows_of peer window told) (score_of told) (in_order (times_of told))
