-- Each turn takes back one retry that was driven on the quota.
use Rattle.std.proofs.Common.{◌≡◌, ◌∷◌, sym}
use Rattle.std.specs.Vec.Iter.{into_iter_items}
use Rattle.std.proofs.lemmas.List.Elements.{All-same, All-head, All-tail}
use Rattle.sched_pool_scripted.specs.Driven.{IsOnQuota}
use Rattle.sched_pool_scripted.proofs.quota_batches.take_back.Goals as goal

pub with-requires-clause-driven : goal.with-requires-clause-driven
with-requires-clause-driven c =
    let steps : into_iter_items c.loop-retry.retry-iterator ≡ c.in-Some.retry ∷ into_iter_items c.next.new.self =
    c.in-Some.ensures.steps.0 in
    let all = All-same (IsOnQuota c.args.quota.now) _ _ (sym steps) c.loop-retry.invariant.rest in
    All-head (IsOnQuota c.args.quota.now) _ _ all

pub loop-retry-preserved : goal.loop-retry-preserved
loop-retry-preserved c =
    let quota = c.args.quota.now in
    let steps : into_iter_items c.loop-retry.retry-iterator ≡ c.in-Some.retry ∷ into_iter_items c.next.new.self =
    c.in-Some.ensures.steps.0 in
    let all = All-same (IsOnQuota quota) _ _ (sym steps) c.loop-retry.invariant.rest in
    record {
      rest = All-tail (IsOnQuota quota) _ _ all;
      taken = c.in_ok-back.ensures;
    }
