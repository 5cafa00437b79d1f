-- The lines so far are printed or kept, and no failure of the writer is lost.
use Rattle.std.proofs.Common.{◌≡◌, string_bytes}
use Rattle.sched_plan_course.specs.Course.{course_of}
use Rattle.sched_cli_plan.proofs.Printed.{IsPrinted}
use Rattle.sched_cli_plan.proofs.printing.write_plan.Given as goal

abbrev pub invariant-loop-number : goal.invariant-loop-number
invariant-loop-number g l = record {
  printed : IsPrinted l.plan (course_of l.course) l.number l.now l.state (string_bytes l.lines)
      (g.W.Sink.taken l.fn.writer) (g.W.Sink.taken l.writer);
  counts : g.W.Sink.failures l.writer ≡ g.W.Sink.failures l.fn.writer;
}
