-- The loop keeps the number of tasks and the moment, and ends since each turn takes one of the tasks that wait.
use Rattle.std.proofs.Common.{◌≡◌, ◌+◌}
use Rattle.std.specs.BinaryHeap.{heap_len}
use Rattle.futures.specs.LinkedLists.Wheel.{armed_count}
use Rattle.sched_wheel.proofs.agenda.Agenda.reach.Given as goal

abbrev pub invariant-loop-task : goal.invariant-loop-task
invariant-loop-task l = (l.self.count ≡ l.fn.self.count) × (l.self.moment ≡ l.fn.moment)

abbrev pub decreases-loop-task : goal.decreases-loop-task
decreases-loop-task l = heap_len l.self.early + armed_count l.self.wheel
