-- The tickets are as many as the events, less one at a stop.
use Rattle.std.proofs.Common.{◌≡◌, ◌+◌, length, refl, subst}
use Rattle.sched_task_law.specs.Kind.{retry}
use Rattle.sched_task_law.specs.Past.{Past, bit}
use Rattle.sched_task_law.specs.Law.{is_stop}
use Rattle.sched_task_law.proofs.Events.{events_law}
use Rattle.sched_retry.proofs.ends.RetryEnd.granted.Goals as goal

pub returns-clause-events : goal.returns-clause-events
returns-clause-events g c =
    subst (λ (v : Past). c.self.inside.granted + bit (is_stop v.over) ≡ length v.driver.journal)
    c.self.view_is (events_law retry refl _ c.self.invariant.0)
