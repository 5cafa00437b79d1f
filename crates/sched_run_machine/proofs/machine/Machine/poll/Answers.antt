-- A poll leaves the machine as it is, ends it by its deadline or begins a run.
use Rattle.sched_run_machine.proofs.Calls.{stays_as}
use Rattle.sched_run_machine.proofs.machine.Machine.poll.Goals as goal

pub returns-then-stays-clause-polls : goal.returns-then-stays-clause-polls
returns-then-stays-clause-polls g c =
    stays_as _ _ _ g.met.D.Draws.lawful c.args.self.now c.args.tick.now (rw c.if-stays.true at c.stays.ensures.looks)
