-- The turns so far are a course of polls that leads from the first tasks to these.
use Rattle.std.proofs.Common.{◌≡◌, length}
use Rattle.sched_wheel.specs.Polled.{standing, IsCourse}
use Rattle.sched_wheel.proofs.loops.drive.Given as goal

abbrev pub invariant-loop-used : goal.invariant-loop-used
invariant-loop-used g l =
    (l.agenda.count ≡ length l.tasks)
    × IsCourse g.T.Task.ended g.T.Task.waits_for g.T.Task.one_poll g.C.Clock.tells g.C.Clock.waits l.used
    (standing l.fn.tasks (g.G.Rng.stream l.fn.rng) l.fn.clock) (standing l.tasks (g.G.Rng.stream l.rng) l.clock)
