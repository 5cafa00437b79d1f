-- Each turn adds a retry on the quota, and leaves the pass unused.
use Rattle.std.proofs.Common.{rules, ◌≡◌, [], ◌∷◌, ◌++◌}
use Rattle.std.proofs.lemmas.List.Elements.{All-push}
use Rattle.sched_pool_scripted.specs.Driven.{IsOnQuota}
use Rattle.sched_pool_scripted.proofs.requests.retries_of.Goals as goal

pub loop-job-preserved : goal.loop-job-preserved
loop-job-preserved c =
    let before = c.loop-job in
    let pushed : c.push_reserved.new.self.items ≡ before.retries.items ++ c.in_ok-retry.retry ∷ [] = search rules in
    record {
      retries =
          rw pushed
          (All-push (IsOnQuota c.args.quota.now) before.retries.items c.in_ok-retry.retry before.invariant.retries
          c.in_ok-retry.ensures.retry);
      of = c.requested.ensures.of;
      unused = c.requested.ensures.unused;
    }
