-- The shares split off so far are of the budget and unused, and are counted.
use Rattle.std.proofs.Common.{◌≡◌, ◌+◌, vec_len, All}
use Rattle.sched_pool_claim.specs.Portion.{IsNewOf, IsUnused}
use Rattle.sched_pool_claim.proofs.claims.split_off.Given as goal

abbrev pub invariant-loop : goal.invariant-loop
invariant-loop l = record {
  pass : IsUnused l.budget l.pass;
  shares : All (IsNewOf l.budget) l.shares.items;
  counted : vec_len l.shares + 1 ≡ l.counter;
}
