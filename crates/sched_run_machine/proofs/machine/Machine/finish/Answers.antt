-- A run ends, in each task that the machine may stand for, as it went.
use Rattle.sched_run_machine.proofs.Calls.{left, ends_run, has_drawn}
use Rattle.sched_run_machine.proofs.machine.Machine.finish.Goals as goal

pub returns-clause-polls : goal.returns-clause-polls
returns-clause-polls g c =
    let ended = c.end_run-self-inside in
    rw c.saturating_add-self-inside.ensures (ends_run _ _ _ g.met.D.Draws.lawful
    _ c.args.tick.now c.args.self.now c.self.view_is c.requires.looks c.requires.in_time
    (g.met.A.Aims.as_kept g.R.Drives.driving.keeps) c.args.ran ended.result ended.new.driver
    ended.new.drawing ended.ensures.deadline ended.ensures.ends ended.ensures.stands)

pub invariant_of-self : goal.invariant_of-self
invariant_of-self g c =
    left _ _ _ g.met.D.Draws.lawful
    _ c.args.tick.now c.args.self.now _ _ c.self.view_is (returns-clause-polls g c) c.self.invariant

pub end_run-self-inside-requires : goal.end_run-self-inside-requires
end_run-self-inside-requires g c =
    record {
      stands = (has_drawn _ _ _ g.met.D.Draws.lawful _ c.self.invariant).1;
    }
