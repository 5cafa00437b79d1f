-- The lines so far are printed or kept, and no failure of the writer is lost.
use Rattle.std.proofs.Common.{◌≡◌, string_bytes}
use Rattle.sched_cli_pool.proofs.PoolLines.{IsPrintedTo}
use Rattle.sched_cli_pool.proofs.ended.write_lines.Given as goal

abbrev pub invariant-loop-number : goal.invariant-loop-number
invariant-loop-number g l = record {
  printed : IsPrintedTo l.ends l.number (string_bytes l.lines) (g.W.Sink.taken l.fn.writer) (g.W.Sink.taken l.writer);
  counts : g.W.Sink.failures l.writer ≡ g.W.Sink.failures l.fn.writer;
}
