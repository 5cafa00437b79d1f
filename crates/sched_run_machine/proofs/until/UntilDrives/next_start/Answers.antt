-- The next start is past neither deadline.
use Rattle.sched_run_machine.proofs.Deadlines.{starts_in_both}
use Rattle.sched_run_machine.proofs.until.UntilDrives.next_start.Goals as goal

pub returns-clause-in_time : goal.returns-clause-in_time
returns-clause-in_time g c =
    rw (← c.self.view_is) (starts_in_both c.self.inside.deadline (g.R.Drives.driving.ends c.self.inside.driver)
    c.next_start.result
    c.starts_in_time.result c.starts_in_time.ensures.in_time c.next_start.ensures.in_time)
