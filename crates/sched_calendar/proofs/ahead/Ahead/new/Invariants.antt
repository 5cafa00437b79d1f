-- So many rows were made, and none has a key.
use Rattle.std.proofs.Common.{◌≡◌, vec_len}
use Rattle.sched_calendar.proofs.Rows.{AreEmpty}
use Rattle.sched_calendar.proofs.ahead.Ahead.new.Given as goal

abbrev pub invariant-loop : goal.invariant-loop
invariant-loop l = (vec_len l.rows ≡ l.counter) × AreEmpty l.rows.items
