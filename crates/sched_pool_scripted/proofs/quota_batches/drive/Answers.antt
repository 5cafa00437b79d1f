-- Driving retries keeps each a retry that the quota drives, however the loop ends.
use Rattle.sched_pool_scripted.specs.Driven.{IsOnQuota}
use Rattle.sched_pool_scripted.proofs.Polls.{all_after, stays_driven}
use Rattle.sched_pool_scripted.proofs.quota_batches.drive.Goals as goal

pub returns-in-Err-NoMemory : goal.returns-in-Err-NoMemory
returns-in-Err-NoMemory g c = λ quota all.
    all_after _ _ _ _ _ (IsOnQuota quota)
    (stays_driven quota) _ _ c.run.ensures.polled.polls c.run.ensures.polled.are all

pub returns-in-Ok : goal.returns-in-Ok
returns-in-Ok g c = λ quota all.
    all_after _ _ _ _ _ (IsOnQuota quota)
    (stays_driven quota) _ _ c.run.ensures.polled.polls c.run.ensures.polled.are all

pub returns-in-Ok-2 : goal.returns-in-Ok-2
returns-in-Ok-2 g c = λ quota all.
    all_after _ _ _ _ _ (IsOnQuota quota)
    (stays_driven quota) _ _ c.run.ensures.polled.polls c.run.ensures.polled.are all
