-- The keys of the moments ahead.
use Rattle.std.specs.Prelude.{ℕ}
use Rattle.sched_calendar.specs.Keys.{row_of, row_at, times_in}
use Rattle.sched_calendar.specs.declared.ahead.Ahead.{Ahead}

-- how often a key stands in its row
abbrev pub times_ahead : Ahead → ℕ → ℕ
times_ahead a key = times_in key (row_at a.rows.items (row_of key))
