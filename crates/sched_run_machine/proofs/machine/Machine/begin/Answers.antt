-- A run begins in each task that the machine may stand for.
use Rattle.sched_run_machine.proofs.Calls.{begins_run, left}
use Rattle.sched_run_machine.proofs.machine.Machine.begin.Goals as goal

pub returns-clause-polls : goal.returns-clause-polls
returns-clause-polls g c =
    begins_run _ _ _ g.met.D.Draws.lawful
    _ c.args._tick.now c.args.self.now c.self.view_is c.requires.looks c.requires.in_time

pub invariant_of-self : goal.invariant_of-self
invariant_of-self g c =
    left _ _ _ g.met.D.Draws.lawful
    _ c.args._tick.now c.args.self.now _ _ c.self.view_is (returns-clause-polls g c) c.self.invariant
