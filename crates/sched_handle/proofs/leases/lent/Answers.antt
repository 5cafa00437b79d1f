-- What is lent is told as it was granted.
use Rattle.sched_handle.proofs.leases.lent.Goals as goal

pub returns-in-Some : goal.returns-in-Some
returns-in-Some c = rw c.get.ensures.value c.in-Some.ensures.some
