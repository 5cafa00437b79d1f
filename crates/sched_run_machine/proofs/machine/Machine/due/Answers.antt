-- The moment to wait for is that of each task.
use Rattle.std.proofs.Common.{ap, ◌∙◌}
use Rattle.sched_run_machine.specs.Next.{start_in}
use Rattle.sched_run_machine.proofs.Waits.{waited}
use Rattle.sched_run_machine.proofs.machine.Machine.due.Goals as goal

pub returns : goal.returns
returns g c = λ v st.
    c.start.ensures ∙ ap start_in (c.next.ensures.next v st)
    ∙ waited (g.A.Aims.kind g.R.Drives.driving.keeps) v.past st.law.law
