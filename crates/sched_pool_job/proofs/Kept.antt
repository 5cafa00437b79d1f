-- A job keeps its ending through polls and cancels, and what it shows is so.
use Rattle.std.proofs.Common.{◌≡◌, ◌<◌, ◌||◌, Bool, true, List, [], ◌∷◌, length, Option, Some, None, is_some, IfSome}
use Rattle.std.proofs.Common.{refl, sym, ap, ◌∙◌, subst, arith}
use Rattle.sched_time.specs.declared.numbers.Tick.{Tick}
use Rattle.sched_plan.specs.Schedule.{Schedule}
use Rattle.sched_plan.specs.declared.history.Event.{Event}
use Rattle.sched_driver.specs.Driven.{next_start_of}
use Rattle.sched_task.specs.declared.endings.How.{How}
use Rattle.sched_ticket.specs.Held.{Name}
use Rattle.sched_ticket_draws.specs.Grants.{Grants}
use Rattle.sched_ticket_draws.specs.Budgets.{OfBudget, budget_grants}
use Rattle.sched_task_law.specs.Kind.{Kind, retry}
use Rattle.sched_task_law.specs.Past.{Past, is_under_way, waits_by}
use Rattle.sched_task_law.specs.Poll.{Happened, stays, cannot_begin, runs_on, cannot_run, ends, breaks, stops_done}
use Rattle.sched_task_law.specs.Poll.{stops_denied, recurs, times_out, May, after}
use Rattle.sched_task_law.proofs.Law.{or_false}
use Rattle.sched_task_law.proofs.Lists.{by_test}
use Rattle.sched_task_law.proofs.Fields.{none_of}
use Rattle.sched_run_machine.specs.Retrying.{Retrying, RetryPoll, GivesUp}
use Rattle.sched_pool_job.specs.Jobs.{IsJob}

none_is : (o : Option How) → o ≡ None → is_some o ≡ true → ⊥
none_is o none some = let bad = rw none at some in cc

-- what is over stays as it is
stays_over : (kind : Kind) (v : Past) (t : Tick) (h : Happened) → May kind v t h → is_some v.over ≡ true →
    after kind v t h ≡ v
stays_over kind v t stays may over = refl
stays_over kind v t cannot_begin may over = absurd (none_is v.over may.0.is_due.unended over)
stays_over kind v t runs_on may over = absurd (none_is v.over may.is_due.unended over)
stays_over kind v t cannot_run may over = absurd (none_is v.over may.is_due.unended over)
stays_over kind v t (ends r) may over = absurd (none_is v.over may.0.is_due.unended over)
stays_over kind v t (breaks r fault) may over = absurd (none_is v.over may.0.is_due.unended over)
stays_over kind v t (stops_done r) may over = absurd (none_is v.over may.0.can.is_due.unended over)
stays_over kind v t (stops_denied r) may over = absurd (none_is v.over may.0.can.is_due.unended over)
stays_over kind v t (recurs r) may over = absurd (none_is v.over may.0.can.is_due.unended over)
stays_over kind v t times_out may over = absurd (none_is v.over may.0.unended over)

-- a retry whose ending was not taken keeps it in a poll
pub polled_untaken : {D : Type 0} (grants : Grants D) (v u : Retrying D) (t : Tick) (ready : Bool) →
    v.untaken ≡ is_some v.past.over → RetryPoll grants retry v t ready u → u.untaken ≡ is_some u.past.over
polled_untaken grants v u t ready untaken poll = by_test (is_some v.past.over)
    (λ yes. poll.untaken ∙ rw yes (untaken ∙ ap (λ (w : Past). is_some w.over)
    (sym (poll.poll.leaves ∙ stays_over retry v.past t poll.poll.happened poll.poll.may yes))))
    (λ no. poll.untaken ∙ rw no poll.poll.ready_is)

pub polled : (b : Name) (v u : Retrying OfBudget) (t : Tick) (ready : Bool) →
    IsJob b v → RetryPoll budget_grants retry v t ready u → IsJob b u
polled b v u t ready job poll = record {
  of = poll.budget ∙ job.of;
  had = poll.had ∙ job.had;
  untaken = polled_untaken budget_grants v u t ready job.untaken poll;
}

pub cancels : (b : Name) (v u : Retrying OfBudget) → IsJob b v → GivesUp budget_grants v u → IsJob b u
cancels b v u job gives = by_test (is_some v.past.over)
    (λ over. subst (λ (u : Retrying OfBudget). IsJob b u) (sym (rw over at gives)) job)
    (λ isnt.
    let gone = rw isnt at gives in
    subst (λ (u : Retrying OfBudget). IsJob b u) (sym gone.1) (record {
      of = ap (λ (d : OfBudget). d.budget) gone.0 ∙ job.of;
      had = job.had;
      untaken = refl;
    }))

-- a start was planned only where the schedule was stepped
some_of : {A : Type 0} (o : Option A) (P : Type 0) → P → IfSome o (λ _. P)
some_of None P p = tt
some_of (Some x) P p = p

planned : (plan : Schedule) (journal : List Event) (P : Type 0) → (0 < length journal → P) →
    IfSome (next_start_of (record { plan = plan; journal = journal })) (λ _. P)
planned plan [] P f = tt
planned plan (e ∷ h) P f = some_of _ P (f (omega arith))

pub waits_unended : (v : Past) →
    IfSome (waits_by (next_start_of v.driver) v) (λ _. (v.over ≡ None) × (0 < length v.driver.journal))
waits_unended v = by_test (is_some v.over || (is_under_way v.runs v.begun || v.denied)) (λ yes. rw yes tt)
    (λ no. rw no (planned v.driver.plan v.driver.journal _ (λ some. (
      none_of v.over (or_false (is_some v.over) _ no).0,
      some,
    ))))
