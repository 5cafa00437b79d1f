-- A new pace, with its first pass.
use Rattle.sched_handle.proofs.PaceMade.{made}
use Rattle.sched_handle.proofs.held.Held.pace.Goals as goal

pub returns-in-Ok : goal.returns-in-Ok
returns-in-Ok c =
    made _ c.boxed.result c.in-Ok.pass c.boxed.ensures.ok c.boxed.ensures.err c.in-Ok.ensures.machine
    c.in-Ok.ensures.first c.in-Ok.ensures.last
