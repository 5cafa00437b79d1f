-- The retries that are taken back were driven on the quota.
use Rattle.std.specs.Prelude.{All}
use Rattle.std.proofs.lemmas.List.Elements.{All-same, All-take, All-drop, All-append}
use Rattle.sched_pool_scripted.specs.Driven.{IsOnQuota}
use Rattle.sched_pool_scripted.proofs.quota_batches.run_beside.Goals as goal

pub take_back-requires-clause-driven : goal.take_back-requires-clause-driven
take_back-requires-clause-driven g c =
    let quota = c.args.quota.now in
    let made = c.in_ok-retries.retries.items in
    let before : All (IsOnQuota quota) made = c.in_ok-retries.ensures.retries in
    let lent : All (IsOnQuota quota) c.deref_mut.result.now =
    All-same (IsOnQuota quota) c.deref_mut.result.now made c.deref_mut.ensures.value before in
    let after : All (IsOnQuota quota) c.drive.new.retries = c.drive.ensures quota lent in
    All-take (IsOnQuota quota) _ _
    (All-append (IsOnQuota quota) c.drive.new.retries _ after (All-drop (IsOnQuota quota) _ made before))
