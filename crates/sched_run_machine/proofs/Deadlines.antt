-- A driver with a deadline plans the starts of its driver that are in time, and steps as that does.
use Rattle.std.proofs.Common.{◌≡◌, ℕ, Bool, false, ◌||◌, List, [], ◌∷◌, Option, Some, None, is_some, is_none, IfSome}
use Rattle.std.proofs.Common.{refl, sym, ap, ◌∙◌, arith}
use Rattle.sched_time.specs.declared.numbers.Tick.{Tick}
use Rattle.sched_plan.specs.Datum.{num}
use Rattle.sched_plan.specs.Schedule.{Schedule}
use Rattle.sched_plan.specs.declared.history.Event.{Event}
use Rattle.sched_step.specs.StateOf.{event_of}
use Rattle.sched_driver.specs.Driven.{Driven}
use Rattle.sched_task_law.specs.Deadline.{is_past, in_time, late, earlier}
use Rattle.sched_task_law.specs.Past.{schedule_is_done, next_start_by}
use Rattle.sched_task_law.proofs.Lists.{by_test}
use Rattle.sched_task_law.proofs.Journals.{start_by_both, done_some, done_after, past_earlier}
use Rattle.sched_task_law.proofs.Law.{undone_yet, none_planned}
use Rattle.sched_run_machine.specs.Drives.{Driving, Until, by_until, with_code, Stepped}

-- a start is past the earlier one where it is past one of both
pub past_either : (a b : Option ℕ) (start : ℕ) → is_past a start ≡ false → is_past b start ≡ false →
    is_past (earlier a b) start ≡ false
past_either a None start first second = first
past_either None (Some b) start first second = second
past_either (Some a) (Some b) start first second = past_earlier a b start ∙ rw (first, second) refl

in_both : (a b : Option ℕ) (start : Option ℕ) → IfSome start (λ m. is_past b m ≡ false) →
    IfSome (in_time a start) (λ m. is_past (earlier a b) m ≡ false)
in_both a b None within = tt
in_both a b (Some start) within =
    by_test (is_past a start) (λ past. rw past tt) (λ isnt. rw isnt (past_either a b start isnt within))

pub starts_in_both : (a b start result : Option ℕ) → result ≡ in_time a start →
    IfSome start (λ m. is_past b m ≡ false) →
    IfSome result (λ m. is_past (earlier a b) m ≡ false)
starts_in_both a b start result is within = rw is (in_both a b start within)

-- there is a start in time unless there is none or it is late
late_or_in_time : (a start : Option ℕ) → is_none (in_time a start) ≡ (is_none start || is_some (late a start))
late_or_in_time a None = refl
late_or_in_time a (Some start) = grind arith

-- the plan is done by both where it is by one of them, or has a start past the other
done_parts : (a b : Option ℕ) (plan : Schedule) (h : List Event) →
    schedule_is_done (earlier a b) (record { plan = plan; journal = h })
    ≡ (schedule_is_done b (record { plan = plan; journal = h }) || is_some
    (late a (next_start_by b (record { plan = plan; journal = h }))))
done_parts a b plan [] =
    rw (undone_yet (earlier a b) plan, undone_yet b plan, none_planned b plan) refl
done_parts a b plan (e ∷ h) =
    let d : Driven = record { plan = plan; journal = e ∷ h } in
    done_some (earlier a b) d (omega arith) ∙ ap is_none (sym (start_by_both a b d))
    ∙ late_or_in_time a (next_start_by b d)
    ∙ ap (λ (done : Bool). done || is_some (late a (next_start_by b d))) (sym (done_some b d (omega arith)))

module _ {R : Type 0} (driving : Driving R)
    (plans : (r : R) (d : Driven) → driving.stands r d → driving.starts r ≡ next_start_by (driving.ends r) d) where
  pub done_until : (v : Until R) (d : Driven) → driving.stands v.driver d →
      schedule_is_done (earlier v.deadline (driving.ends v.driver)) d
      ≡ (schedule_is_done (driving.ends v.driver) d || is_some (late v.deadline (driving.starts v.driver)))
  done_until v d st =
      done_parts v.deadline (driving.ends v.driver) d.plan d.journal
      ∙ ap (λ (start : Option ℕ). schedule_is_done (driving.ends v.driver) d || is_some (late v.deadline start))
      (sym (plans v.driver d st))

  pub steps_until : (old new : R) (deadline : Option ℕ) (t : Tick) (code : ℕ) (begun : Bool) →
      driving.ends new ≡ driving.ends old → Stepped driving old t code begun new →
      Stepped (by_until driving) (record { driver = old; deadline = deadline }) t code
      (is_none (in_time deadline (driving.starts new))) (record { driver = new; deadline = deadline })
  steps_until old new deadline t code begun ends stepped d st =
      let step = stepped d st in
      let both = earlier deadline (driving.ends old) in record {
        room = step.room;
        stands_on = step.stands_on;
        done_is = done_after both d (event_of t (num code))
            ∙ ap is_none (sym (start_by_both deadline (driving.ends old) (with_code d t code)))
            ∙ ap (λ (start : Option ℕ). is_none (in_time deadline start))
            (ap (λ (end : Option ℕ). next_start_by end (with_code d t code)) (sym ends)
            ∙ sym (plans new (with_code d t code) step.stands_on));
      }
