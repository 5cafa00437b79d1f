-- The shares are of the board's claims, and the loop ends since each turn takes one.
use Rattle.std.proofs.Common.{◌+◌, ◌≤◌, vec_len, vec_capacity, All}
use Rattle.sched_pool_claim.specs.Portion.{IsShareOf}
use Rattle.sched_pool.proofs.runs.crew.Given as goal

abbrev pub invariant-loop-share : goal.invariant-loop-share
invariant-loop-share g l = record {
  shares : All (IsShareOf l.board.claims) l.shares.items;
  room : vec_len l.shares + vec_len l.workers ≤ vec_capacity l.workers;
}

abbrev pub decreases-loop-share : goal.decreases-loop-share
decreases-loop-share g l = vec_len l.shares
