-- The deadline ends each task that the machine may stand for.
use Rattle.std.proofs.Common.{refl}
use Rattle.sched_run_machine.proofs.Calls.{ends_late, left}
use Rattle.sched_run_machine.proofs.machine.Machine.time_out.Goals as goal

pub returns-clause-polls : goal.returns-clause-polls
returns-clause-polls g c =
    ends_late _ _ _ g.met.D.Draws.lawful
    _ c.args._tick.now c.args.self.now c.self.view_is c.requires.looks c.ended.new.self c.ended.ensures c.requires.late

pub invariant_of-self : goal.invariant_of-self
invariant_of-self g c =
    left _ _ _ g.met.D.Draws.lawful
    _ c.args._tick.now c.args.self.now _ _ c.self.view_is (returns-clause-polls g c) c.self.invariant

pub returns-clause-ends : goal.returns-clause-ends
returns-clause-ends g c = rw (← c.self.view_is) (c.ended.ensures, refl)
