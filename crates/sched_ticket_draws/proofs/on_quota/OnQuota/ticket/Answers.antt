-- `ticket` returns what a draw of the quota's pass returns.
use Rattle.sched_ticket_draws.proofs.on_quota.OnQuota.ticket.Goals as goal

pub returns-clause-ok : goal.returns-clause-ok
returns-clause-ok g c = rw (← c.self.view_is, ← c.target.ensures) c.draw.ensures.ok

pub returns-clause-err : goal.returns-clause-err
returns-clause-err g c = rw (← c.self.view_is, ← c.target.ensures) c.draw.ensures.err
