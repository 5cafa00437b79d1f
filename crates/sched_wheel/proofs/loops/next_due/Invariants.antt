-- The loop keeps the clock's answer, and ends since each turn takes a task from the queue.
use Rattle.std.proofs.Common.{◌≡◌}
use Rattle.std.specs.VecDeque.{deque_len}
use Rattle.sched_wheel.proofs.loops.next_due.Given as goal

abbrev pub invariant-loop-number : goal.invariant-loop-number
invariant-loop-number g l =
    (l.agenda.count ≡ l.fn.agenda.count) × g.C.Clock.tells l.fn.clock l.agenda.moment l.clock

abbrev pub decreases-loop-number : goal.decreases-loop-number
decreases-loop-number g l = deque_len l.agenda.ready
