-- The agenda counts each task.
use Rattle.std.proofs.Common.{◌≡◌, length}
use Rattle.sched_wheel.proofs.loops.begin.Given as goal

abbrev pub invariant-loop-number : goal.invariant-loop-number
invariant-loop-number g l = l.agenda.count ≡ length l.fn.tasks
