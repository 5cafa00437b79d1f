-- The share has gone on by claims and closings, within the turns and what it may hold.
use Rattle.std.proofs.Common.{◌≡◌, ◌≤◌, length, max}
use Rattle.sched_pool_claim.specs.Portion.{IsShareOf}
use Rattle.sched_wheel.specs.Polled.{IsLeft}
use Rattle.sched_pool_worker.specs.Working.{WentOn, still_to_do}
use Rattle.sched_pool_worker.proofs.works.work_through.Given as goal

abbrev pub invariant-loop-claims : goal.invariant-loop-claims
invariant-loop-claims g l = record {
  of : IsShareOf (g.J.Claimed.claims l.claims) l.share;
  went_on : WentOn l.fn.share l.share;
  held : length l.share.active ≤ max (length l.fn.share.active) l.fn.station.hold;
  turns : l.used ≤ l.turns;
  hold : l.station.hold ≡ l.fn.station.hold;
  polls : IsLeft l.used (g.G.Rng.stream l.fn.station.rng) (g.G.Rng.stream l.station.rng);
}

abbrev pub decreases-loop-claims : goal.decreases-loop-claims
decreases-loop-claims g l = still_to_do l.share
