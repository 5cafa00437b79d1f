-- What a host waits for is what the task waits for.
use Rattle.std.proofs.Common.{◌≡◌, ℕ, Option, Some, None, refl}
use Rattle.sched_plan.specs.Schedule.{Schedule}
use Rattle.sched_task_law.specs.Kind.{Kind}
use Rattle.sched_task_law.specs.Past.{Past, nothing_until, is_under_way, next_start_by, waits_for}
use Rattle.sched_task_law.specs.Law.{Law}
use Rattle.sched_task_law.proofs.Lists.{by_test}
use Rattle.sched_task_law.proofs.Events.{undenied}
use Rattle.sched_task_law.proofs.Law.{none_planned}
use Rattle.sched_run_machine.specs.Next.{next_of, next_by_start, start_in}
use Rattle.sched_run_machine.specs.declared.next.Next.TheVariants.{Poll}

-- a start is waited for, or none
start_by : (start : Option ℕ) → start_in (next_by_start start) ≡ start
start_by None = refl
start_by (Some start) = refl

-- the moment to wait for is that for which the task waits
pub waited : (kind : Kind) (v : Past) → Law kind v → start_in (next_of v) ≡ waits_for v
waited kind v law =
    elim v.over as (λ over. v.over ≡ over → start_in (next_of v) ≡ waits_for v) [
      | None ↦ λ unended.
          let none = undenied v (rw unended at law.ended) in
          by_test (is_under_way v.runs v.begun)
          (λ running. rw (unended, none, running) refl)
          (λ idle. rw (unended, none, idle) (start_by (next_start_by v.deadline v.driver)))
      | Some how ↦ λ over. rw over refl
    ] refl

-- one that has not begun is to be polled
pub unbegun_next : (plan : Schedule) (deadline : Option ℕ) → next_of (nothing_until plan deadline) ≡ Poll
unbegun_next plan deadline = rw (none_planned deadline plan) refl
