-- A claim has room in the share's list, and keeps the share's invariant.
use Rattle.std.proofs.Common.{arith}
use Rattle.sched_pool_claim.proofs.Portions.{has_room, takes}
use Rattle.sched_pool_claim.proofs.shares.Share.claim.Goals as goal

pub push_reserved-requires : goal.push_reserved-requires
push_reserved-requires g c =
    let s = c.self.inside in
    omega (arith, s.active.ok.0, has_room s.pass s.active.items _ _ _ c.self.invariant c.in_ok-job.ensures.some)

pub invariant_of-self-2 : goal.invariant_of-self-2
invariant_of-self-2 g c =
    let s = c.self.inside in
    rw (c.push_reserved.ensures.items, c.push_reserved.ensures.capacity)
    (takes s.pass c.draw.new.self s.active.items _ _ c.self.invariant c.in_ok-job.ensures.some)
