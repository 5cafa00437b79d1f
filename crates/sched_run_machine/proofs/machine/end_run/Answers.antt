-- The end of a run: what draws is told how it went, and that the task is over, and stands.
use Rattle.sched_run_machine.proofs.Settles.{stands_told, stands_ended}
use Rattle.sched_run_machine.proofs.machine.end_run.Goals as goal

pub stop_or_go_on-over-requires : goal.stop_or_go_on-over-requires
stop_or_go_on-over-requires g c =
    record { stands = stands_told g.D.Draws.grants g.met.D.Draws.lawful _ _ _ _ c.tell_run.ensures c.requires.stands }

pub returns-clause-stands : goal.returns-clause-stands
returns-clause-stands g c =
    stands_ended g.D.Draws.grants g.met.D.Draws.lawful _ _ _ c.tell_end.ensures c.stop_or_go_on-over.ensures.stands

pub returns-clause-ends : goal.returns-clause-ends
returns-clause-ends g c =
    (_, _, c.tell_run.ensures, c.stop_or_go_on-over.ensures.ends, c.tell_end.ensures)
