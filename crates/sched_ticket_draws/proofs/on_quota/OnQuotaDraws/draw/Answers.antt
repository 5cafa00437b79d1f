-- What `draw` returns and leaves is what a draw of the quota's pass returns and leaves.
use Rattle.std.proofs.Common.{refl}
use Rattle.sched_ticket_draws.proofs.on_quota.OnQuotaDraws.draw.Goals as goal
use Rattle.sched_ticket_draws.proofs.on_quota.OnQuotaDraws.draw.Goals.{in-Ok, in-Err}

pub returns-clause-drew : goal.returns-clause-drew
returns-clause-drew g c = elim c.match-draw.branch [
  | in-Ok w ↦ rw (w.result-is, ← c.self.view_is, ← c.target.ensures)
      (refl, _, w.in-Ok.ensures.ok, w.in-Ok.ensures.latest)
  | in-Err w ↦ rw (w.result-is, ← c.self.view_is, ← c.target.ensures)
      (refl, _, w.in-Err.ensures.err, w.in-Err.ensures.still)
]
