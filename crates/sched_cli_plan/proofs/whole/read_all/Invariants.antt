-- The bytes so far were read, each turn read one at least, and no read has failed.
use Rattle.std.proofs.Common.{◌≡◌, ◌≤◌, length}
use Rattle.std.specs.Io.KnownBytes.{Consumes}
use Rattle.sched_cli_plan.proofs.whole.read_all.Given as goal

abbrev pub invariant-loop : goal.invariant-loop
invariant-loop g l = record {
  reads : Consumes (g.R.Source.left l.initial.reader) (g.R.Source.left l.reader) l.bytes.items;
  fits : length l.bytes.items ≤ 1048576;
  grows : l.counter ≤ length l.bytes.items;
  counts : g.R.Source.failures l.reader ≡ g.R.Source.failures l.initial.reader;
}
