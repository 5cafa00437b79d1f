-- The first span is forgotten.
use Rattle.std.proofs.Common.{inr, arith}
use Rattle.sched_ticket_lease.proofs.leased.trim.Goals as goal

pub returns-clause-kept : goal.returns-clause-kept
returns-clause-kept c = inr (c.forget_one.result, c.forget_one.ensures.weight, omega arith, omega arith)
