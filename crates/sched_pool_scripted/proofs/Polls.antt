-- A retry stays on its quota through all polls of a loop.
use Rattle.std.proofs.Common.{◌≡◌, ℕ, Bool, true, List, [], ◌∷◌, length, Option, sym, ap, ◌∙◌, subst}
use Rattle.std.specs.Prelude.{All}
use Rattle.std.proofs.lemmas.List.Elements.{All-set}
use Rattle.sched_time.specs.declared.numbers.Tick.{Tick}
use Rattle.sched_effect.specs.declared.ran.Ran.{Ran}
use Rattle.sched_effect.specs.declared.ran.Ran.TheVariants.{Won, Lost}
use Rattle.sched_task.specs.declared.endings.How.{How}
use Rattle.sched_task_law.specs.Kind.{retry}
use Rattle.sched_task_law.specs.Poll.{Happened, stays, cannot_begin, runs_on, cannot_run, ends, breaks, stops_done}
use Rattle.sched_task_law.specs.Poll.{stops_denied, recurs, times_out}
use Rattle.sched_wheel.specs.Polled.{Standing, Poll, polled, ArePolls}
use Rattle.sched_ticket.specs.Lists.{Each}
use Rattle.sched_ticket_quota.specs.Windows.{window_of}
use Rattle.sched_ticket_quota.specs.Held.{Name}
use Rattle.sched_ticket_draws.specs.Quotas.{OfQuota, quota_grants}
use Rattle.sched_run_machine.specs.Drives.{by_driver}
use Rattle.sched_run_machine.specs.Retrying.{Retrying, Tells, TellsLast, DrawsIn, TaskPoll}
use Rattle.sched_run_machine.proofs.Driven.{driven_poll}
use Rattle.sched_pool_job.proofs.Kept.{polled_untaken}
use Rattle.sched_pool_scripted.specs.Driven.{IsOnQuota}
use Rattle.sched_pool_scripted.proofs.Passes.{kept_of, drew_kept, drew_none_kept}

module _ {T C : Type 0} (ended : T → Option How) (waits_for : T → Option ℕ) (one_poll : T → Tick → Bool → T → Type 0)
    (tells : C → ℕ → C → Type 0) (waits : C → ℕ → ℕ → C → Type 0) (P : T → Type 0)
    (keeps : (v : T) (t : Tick) (ready : Bool) (u : T) → P v → one_poll v t ready u → P u) where
  -- what each poll keeps holds of all tasks after them
  pub all_after : (loop after : Standing T C) (polls : List (Poll T C)) →
      ArePolls ended waits_for one_poll tells waits loop polls after → All P loop.tasks → All P after.tasks
  all_after loop after [] idle all = subst (λ (ts : List T). All P ts) idle.tasks all
  all_after loop after (poll ∷ polls) are all =
      let before = are.0 in
      let is = are.2 in
      let here : All P before.tasks = subst (λ (ts : List T). All P ts) are.1.tasks all in
      let was : P is.task = subst P is.there (here poll.place is.task is.inside) in
      all_after (polled before poll) after polls are.3
      (All-set P before.tasks poll.place poll.task (keeps is.task poll.tick poll.ready poll.task was is.poll_is) here)

-- a quota that is told how a run went is as it was
told_same : (r : Ran) (now : ℕ) (d e : OfQuota) → Tells quota_grants r now d e → e ≡ d
told_same (Won code) now d e same = same
told_same (Lost code) now d e same = same

-- what a poll draws keeps the pass's requests, and the terms that it has set
kept : (d e : OfQuota) → e ≡ d → kept_of e.pass.has ≡ kept_of d.pass.has
kept d e same = ap (λ (d : OfQuota). kept_of d.pass.has) same

kept_last : (r : Ran) (now : ℕ) (d e : OfQuota) → TellsLast quota_grants r now d e →
    kept_of e.pass.has ≡ kept_of d.pass.has
kept_last r now d e tells = kept d e (tells.2 ∙ told_same r now d tells.0 tells.1)

draws_kept : (h : Happened) (now : ℕ) (d e : OfQuota) → DrawsIn quota_grants true h now d e →
    kept_of e.pass.has ≡ kept_of d.pass.has
draws_kept (recurs r) now d e drew =
    drew_kept drew.0 now e drew.2 ∙ kept d drew.0 (told_same r now d drew.0 drew.1)
draws_kept (stops_denied r) now d e drew =
    kept drew.1 e drew.4 ∙ drew_none_kept drew.0 now drew.1 drew.3
    ∙ kept d drew.0 (told_same r now d drew.0 drew.2)
draws_kept stays now d e same = kept d e same
draws_kept cannot_begin now d e same = kept d e same
draws_kept runs_on now d e same = kept d e same
draws_kept cannot_run now d e same = kept d e same
draws_kept (ends r) now d e tells = kept_last r now d e tells
draws_kept (breaks r fault) now d e tells = kept_last r now d e tells
draws_kept (stops_done r) now d e tells = kept_last r now d e tells
draws_kept times_out now d e same = kept d e same

pub stays_driven : (quota : Name) (v : Retrying OfQuota) (t : Tick) (ready : Bool) (u : Retrying OfQuota) →
    IsOnQuota quota v → TaskPoll by_driver quota_grants retry v t ready u → IsOnQuota quota u
stays_driven quota v t ready u was polled = let poll = driven_poll quota_grants retry v t ready u polled in record {
  of = poll.budget ∙ was.of;
  had = poll.had ∙ was.had;
  untaken = polled_untaken quota_grants v u t ready was.untaken poll;
  asked = ap (λ (xs : List ℕ × List ℕ). length xs.0)
      (draws_kept poll.poll.happened t.now v.drawing u.drawing poll.drawing) ∙ was.asked;
  unchanged = ap (λ (xs : List ℕ × List ℕ). xs.1) (draws_kept poll.poll.happened t.now v.drawing u.drawing poll.drawing)
      ∙ was.unchanged;
  early =
      subst (Each (λ n. window_of n ≡ 0))
      (sym (ap (λ (xs : List ℕ × List ℕ). xs.0) (draws_kept poll.poll.happened t.now v.drawing u.drawing poll.drawing)))
      was.early;
}
