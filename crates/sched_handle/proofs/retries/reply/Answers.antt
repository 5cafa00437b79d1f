-- What C is told of a retry is so of each retry that the machine may stand for.
use Rattle.std.proofs.Common.{◌≡◌, ℕ, false, ◌||◌, ◌-◌, nat_eq, length, min, Option, None, is_some, option_map, refl}
use Rattle.std.proofs.Common.{sym, ap, ◌∙◌}
use Rattle.sched_handle.specs.declared.replies.Reply.{Reply}
use Rattle.sched_run_machine.specs.Retrying.{Retrying}
use Rattle.sched_ticket_draws.specs.declared.drawing.Drawing.{Drawing}
use Rattle.sched_handle.specs.Retries.{MayBe, reply_of, plan_is_done, left_number, left_at}
use Rattle.sched_driver.specs.Driven.{Driven}
use Rattle.sched_driver_stepper.specs.Standing.{Standing}
use Rattle.sched_task_law.specs.Deadline.{late}
use Rattle.sched_task_law.specs.Past.{schedule_is_done, next_start_by}
use Rattle.sched_run_machine.specs.Drives.{Until, IsStepped}
use Rattle.sched_handle.proofs.Deadlines.{TellsEnding, tells_ending, waits_in_time}
use Rattle.sched_handle.proofs.retries.reply.Goals as goal

pub returns : goal.returns
returns c =
    let m = c.args.retry.now in
    let deadline = m.driver.deadline in
    let start = c.late_start-late.result in
    let late_is : (d : Driven) → IsStepped m.driver.driver d → start ≡ late deadline (next_start_by None d) =
    rw c.driver.ensures at c.late_start-late.ensures.late in
    let done_is : (d : Driven) → IsStepped m.driver.driver d →
    schedule_is_done deadline d ≡ (schedule_is_done None d || is_some start) =
    rw c.driver.ensures at c.late_start-late.ensures.done in
    let now = c.args.now in
    let left_is : c.left_of-left.result ≡ left_at deadline now =
    c.left_of-left.ensures
    ∙ ap left_number (c.left.ensures ∙ ap (λ (v : Until Standing). option_map (λ (end : ℕ). end - now) v.deadline)
    c.driver-2.ensures) in
    let tells : (u : Retrying Drawing) → MayBe m u → c.reply_to.result ≡ reply_of deadline now u.past =
    λ u st. rw (
      c.reply_to.ensures,
      c.next-next.ensures.next u st,
      c.is_some.ensures,
      late_is u.past.driver st.driver,
      c.granted-granted.ensures.granted u st,
      c.told-runs.ensures,
      st.told,
      left_is,
    ) refl in
    let ending : (u : Retrying Drawing) → MayBe m u → TellsEnding deadline u.past (reply_of deadline now u.past).how =
    λ u st. tells_ending false deadline u.past u.past.granted (min (length u.past.runs) 18446744073709551615)
    (left_at deadline now) st.law.law
    (ap (λ (end : Option ℕ). schedule_is_done end u.past.driver) (sym st.deadline) ∙ done_is u.past.driver st.driver
    ∙ ap (λ b. plan_is_done u.past || b) (ap is_some (late_is u.past.driver st.driver))) in
    record {
      stands = c.granted-granted.ensures.stands;
      tells = tells;
      in_time = rw c.reply_to.ensures (waits_in_time deadline c.next-next.result _ _ _ _ c.next-next.ensures.in_time);
      done = λ u st. (ending u st).0 ∙ ap (λ (r : Reply). nat_eq r.how 2) (sym (tells u st));
      late = λ u st. (ending u st).1 ∙ ap (λ (r : Reply). nat_eq r.how 8) (sym (tells u st));
    }
