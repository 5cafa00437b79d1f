-- What is gone from `rest` was written, and no write has failed.
use Rattle.std.proofs.Common.{◌≡◌, ℕ, List, ◌++◌, length}
use Rattle.std.specs.Io.KnownBytes.{Appends}
use Rattle.sched_cli_plan.proofs.whole.put_all.Given as goal

abbrev pub invariant-loop-rest : goal.invariant-loop-rest
invariant-loop-rest g l = record {
  written : (front : List ℕ) × (l.initial.rest ≡ front ++ l.rest)
      × Appends (g.W.Sink.taken l.initial.writer) (g.W.Sink.taken l.writer) front;
  counts : g.W.Sink.failures l.writer ≡ g.W.Sink.failures l.initial.writer;
}

abbrev pub decreases-loop-rest : goal.decreases-loop-rest
decreases-loop-rest g l = length l.rest
