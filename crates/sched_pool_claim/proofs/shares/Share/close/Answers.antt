-- Closing a job keeps the share's invariant.
use Rattle.sched_pool_claim.proofs.Portions.{closes}
use Rattle.sched_pool_claim.proofs.shares.Share.close.Goals as goal

pub invariant_of-self : goal.invariant_of-self
invariant_of-self c =
    rw (c.remove.ensures.items, c.remove.ensures.capacity)
    (closes c.self.inside.pass c.self.inside.active.items _ c.args.at c.self.invariant)
