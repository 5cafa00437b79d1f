-- `hand_back` returns what the quota's pass returns.
use Rattle.sched_ticket_draws.proofs.on_quota.OnQuota.hand_back.Goals as goal

pub returns-clause-ok : goal.returns-clause-ok
returns-clause-ok g c = rw (← c.self.view_is) c.hand_back.ensures.ok
