-- The pass and the shares left have all claims and refusals, each job claimed once.
use Rattle.std.proofs.Common.{◌≡◌, ℕ, ◌+◌, ◌≤◌, length, vec_len, All}
use Rattle.sched_ticket.specs.Lists.{times}
use Rattle.sched_ticket.specs.Held.{IsOf}
use Rattle.sched_pool_claim.specs.Portion.{IsPartOf, claims_of, refusals_of}
use Rattle.sched_pool_claim.proofs.claims.join_all.Given as goal

abbrev pub invariant-loop-share : goal.invariant-loop-share
invariant-loop-share l = record {
  of : IsOf l.budget l.pass;
  shares : All (IsPartOf l.budget) l.shares.items;
  claims : (job : ℕ) → times job l.pass.has.tickets + claims_of job l.shares.items ≡ claims_of job l.fn.shares.items;
  refusals : length l.pass.has.refusals + refusals_of l.shares.items ≡ refusals_of l.fn.shares.items;
  once : (job : ℕ) → times job l.pass.has.tickets ≤ 1;
}

abbrev pub decreases-loop-share : goal.decreases-loop-share
decreases-loop-share l = vec_len l.shares
