-- The moment to wait for is that of each task.
use Rattle.std.proofs.Common.{ap, ◌∙◌}
use Rattle.sched_run_machine.specs.Next.{start_in}
use Rattle.sched_run_machine.proofs.Waits.{waited}
use Rattle.sched_closure.proofs.machines.MachineTurns.next.Goals as goal

pub returns-clause-due : goal.returns-clause-due
returns-clause-due g c = λ v st.
    ap start_in (c.next.ensures.next v st) ∙ waited (g.A.Aims.kind g.S.Drives.driving.keeps) v.past st.law.law
