-- A step of the driver beneath is one of the driver with its deadline.
use Rattle.sched_run_machine.proofs.Deadlines.{steps_until}
use Rattle.sched_run_machine.proofs.until.UntilDrives.step.Goals as goal

pub returns-clause-stepped : goal.returns-clause-stepped
returns-clause-stepped g c =
    rw (← c.self.view_is, c.starts_in_time.ensures.in_time, c.next_start.ensures.start)
    (steps_until g.R.Drives.driving g.met.R.Drives.plans c.self.inside.driver c.step.new.self c.self.inside.deadline
    c.args.tick.now c.args.code _ c.step.ensures.deadline c.in_ok-step.ensures.stepped)
