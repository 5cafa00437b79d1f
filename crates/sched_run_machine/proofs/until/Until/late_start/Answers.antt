-- The late start is that of each journal that the driver may stand for, and ends its schedule.
use Rattle.std.proofs.Common.{ap, ◌∙◌}
use Rattle.sched_task_law.specs.Deadline.{late}
use Rattle.sched_run_machine.proofs.Deadlines.{done_until}
use Rattle.sched_run_machine.proofs.until.Until.late_start.Goals as goal

pub returns-clause-late : goal.returns-clause-late
returns-clause-late g c =
    rw (← c.self.view_is) (λ d st.
    c.starts_late.ensures ∙ ap (late c.self.inside.deadline) (c.next_start.ensures.start
    ∙ g.met.R.Drives.plans c.self.inside.driver d st))

pub returns-clause-done : goal.returns-clause-done
returns-clause-done g c =
    rw (← c.self.view_is, c.starts_late.ensures, c.next_start.ensures.start) (λ d st.
    done_until g.R.Drives.driving g.met.R.Drives.plans
    (record { driver = c.self.inside.driver; deadline = c.self.inside.deadline }) d st)
