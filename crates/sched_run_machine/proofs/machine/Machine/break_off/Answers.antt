-- Memory is refused to the run of each task, or to its beginning.
use Rattle.std.proofs.Common.{refl}
use Rattle.sched_run_machine.proofs.Calls.{left, breaks_run}
use Rattle.sched_run_machine.proofs.machine.Machine.break_off.Goals as goal

pub returns-clause-polls : goal.returns-clause-polls
returns-clause-polls g c =
    breaks_run _ _ _ g.met.D.Draws.lawful
    _ c.args._tick.now c.args.self.now c.self.view_is c.requires.looks c.requires.in_time c.args.begun c.ended.new.self
    c.ended.ensures c.requires.begun

pub invariant_of-self : goal.invariant_of-self
invariant_of-self g c =
    left _ _ _ g.met.D.Draws.lawful
    _ c.args._tick.now c.args.self.now _ _ c.self.view_is (returns-clause-polls g c) c.self.invariant

pub returns-clause-breaks_off : goal.returns-clause-breaks_off
returns-clause-breaks_off g c = rw (← c.self.view_is) (c.ended.ensures, refl)
