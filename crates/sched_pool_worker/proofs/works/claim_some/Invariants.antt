-- The share has gone on by claims alone, and holds no more jobs than it may.
use Rattle.std.proofs.Common.{◌≡◌, ◌-◌, ◌≤◌, length, max}
use Rattle.sched_pool_claim.specs.Portion.{IsShareOf}
use Rattle.sched_pool_worker.specs.Working.{WentOn, still_to_do}
use Rattle.sched_pool_worker.proofs.works.claim_some.Given as goal

abbrev pub invariant-loop-share : goal.invariant-loop-share
invariant-loop-share g l = record {
  of : IsShareOf (g.J.Claimed.claims l.claims) l.share;
  went_on : WentOn l.fn.share l.share;
  held : length l.share.active ≤ max (length l.fn.share.active) l.hold;
  to_do : still_to_do l.share ≡ still_to_do l.fn.share;
}

abbrev pub decreases-loop-share : goal.decreases-loop-share
decreases-loop-share g l = l.share.pass.has.terms.limit - length l.share.pass.has.tickets
