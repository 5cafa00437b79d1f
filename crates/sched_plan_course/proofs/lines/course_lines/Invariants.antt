-- The loop has the state and the lines of the events so far.
use Rattle.std.proofs.Common.{◌≡◌}
use Rattle.sched_plan_course.specs.Course.{course_of}
use Rattle.sched_plan_course.specs.Run.{run}
use Rattle.sched_plan_course.specs.Lines.{lines_of}
use Rattle.sched_plan_course.proofs.Along.{IsAlong}
use Rattle.sched_plan_course.proofs.lines.course_lines.Given as goal

abbrev pub invariant-loop-number : goal.invariant-loop-number
invariant-loop-number l = record {
  along : IsAlong l.plan (course_of l.course) l.number l.now l.state;
  told : l.lines.items ≡ lines_of l.plan (run l.plan (course_of l.course) l.number);
}
