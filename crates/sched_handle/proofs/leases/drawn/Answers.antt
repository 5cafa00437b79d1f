-- A draw that gives no ticket changes nothing but what is drawn, and says why there is none.
use Rattle.sched_handle.proofs.Undrawn.{none-drawn}
use Rattle.sched_handle.proofs.leases.drawn.Goals as goal

pub returns-in-Err : goal.returns-in-Err
returns-in-Err c =
    none-drawn _ _ _ c.in-Err.why c.undrawn.result c.undrawn.ensures c.in-Err.ensures.err.0 c.in-Err.ensures.err.1
