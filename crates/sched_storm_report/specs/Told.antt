-- A tally and the moments that it was told.
use Rattle.std.specs.Prelude.{◌≡◌, ℕ, ◌+◌, ◌-◌, ◌/◌, ◌<◌, ◌≤◌, Bool, if◌then◌else◌, List, [], ◌∷◌, ◌++◌, All}
use Rattle.std.specs.Prelude.{slice_index_or, vec_len, option_to_list}
use Rattle.sched_storm_report.specs.Counts.{with_happening, with_won, score_after}
use Rattle.sched_storm_report.specs.Moments.{counts_where, is_in_window, always, score_of, time_at, times_of, latest}
use Rattle.sched_storm_report.specs.Moments.{busy_by}
use Rattle.sched_storm_report.specs.Peer.{none_busy}
use Rattle.sched_storm_report.specs.Report.{window_of}
use Rattle.sched_storm_report.specs.declared.counts.Counts.{Counts}
use Rattle.sched_storm_report.specs.declared.moments.Happening.{Happening}
use Rattle.sched_storm_report.specs.declared.moments.Happening.TheVariants.{Won}
use Rattle.sched_storm_report.specs.declared.moments.Moment.{Moment}
use Rattle.sched_storm_report.specs.declared.peer.Peer.{Peer}
use Rattle.sched_storm_report.specs.declared.tally.Tally.{Tally}
use Rattle.sched_storm_report.specs.declared.tally.Window.{Window}

-- a request that is won at a moment did not begin after it
abbrev pub HasBegun : ℕ → Happening → Type 0
HasBegun at (Won began) = began ≤ at
HasBegun at _ = Unit {0}

-- it happens before a moment
pub record IsBefore (end : ℕ) (m : Moment) : Type 0 where
  pub before : m.at < end
  pub began : HasBegun m.at m.what

-- A tally of these moments, none of which lies after the window that is not over.
pub record Stands (peer : Peer) (told : List Moment) (t : Tally) : Type 0 where
  pub before : All (IsBefore (t.from + t.window)) told
  -- of each window that is over
  pub windows : (n : ℕ) (d : Window) → n < vec_len t.windows →
      slice_index_or t.windows.items n d ≡ window_of peer t.window told n
  pub here : t.here ≡ counts_where (is_in_window t.window (vec_len t.windows)) told
  pub score : t.score ≡ score_of told
  pub times : t.took.items ≡ times_of told
  pub busy : t.busy ≡ busy_by (t.from + t.window) none_busy told

-- The tally was told these moments, the last of them in the window that is not over.
pub record AreTold (peer : Peer) (told : List Moment) (t : Tally) : Type 0 where
  pub stands : Stands peer told t
  pub latest_is : latest 0 told / t.window ≡ vec_len t.windows

-- a request that is won counts where it began
abbrev pub credited : (ℕ → Bool) → Happening → Counts → Counts
credited here (Won began) c = if here began then with_won c else c
credited here _ c = c

-- What changes where a request is won: what is counted in the window in which it began and in all, and its time.
pub record IsWon (began at : ℕ) (old new : Tally) : Type 0 where
  pub length : vec_len new.windows ≡ vec_len old.windows
  pub windows : (n : ℕ) (d : Window) → n < vec_len old.windows → let w = slice_index_or old.windows.items n d in
      slice_index_or new.windows.items n d ≡ record w {
        counts =
            credited (is_in_window old.window n) (Won began) w.counts;
      }
  pub here : new.here ≡ credited (is_in_window old.window (vec_len old.windows)) (Won began) old.here
  pub score : new.score ≡ record (old.score) { all = with_won old.score.all }
  pub times : new.took.items ≡ old.took.items ++ (at - began) ∷ []

-- What changes where a moment of the window that is not over is counted.
pub record IsNext (m : Moment) (old new : Tally) : Type 0 where
  pub window : new.window ≡ old.window
  pub from : new.from ≡ old.from
  pub length : vec_len new.windows ≡ vec_len old.windows
  pub windows : (n : ℕ) (d : Window) → n < vec_len old.windows → let w = slice_index_or old.windows.items n d in
      slice_index_or new.windows.items n d ≡ record w { counts = credited (is_in_window old.window n) m.what w.counts }
  pub here : new.here ≡
      with_happening m.what (credited (is_in_window old.window (vec_len old.windows)) m.what old.here)
  pub score : new.score ≡ score_after m.what (record (old.score) { all = credited always m.what old.score.all })
  pub times : new.took.items ≡ old.took.items ++ option_to_list (time_at m.at m.what)
  pub busy : new.busy ≡ m.busy
  pub said : new.said ≡ old.said + 1
