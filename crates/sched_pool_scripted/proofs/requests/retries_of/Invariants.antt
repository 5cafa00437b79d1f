-- The retries so far are driven on the quota, and the pass is unused.
use Rattle.std.specs.Prelude.{All}
use Rattle.sched_ticket_quota.specs.Held.{IsOf}
use Rattle.sched_pool_scripted.specs.Driven.{IsOnQuota, IsUnused}
use Rattle.sched_pool_scripted.proofs.requests.retries_of.Given as goal

abbrev pub invariant-loop-job : goal.invariant-loop-job
invariant-loop-job l = record {
  retries : All (IsOnQuota l.quota) l.retries.items;
  of : IsOf l.quota l.pass;
  unused : IsUnused l.pass.has;
}
