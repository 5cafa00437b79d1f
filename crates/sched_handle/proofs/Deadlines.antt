-- How a retry with a deadline has ended tells whether its plan is done, and whether the deadline ended it.
use Rattle.std.proofs.Common.{◌≡◌, ℕ, Bool, true, false, ◌||◌, if◌then◌else◌, nat_eq, List, [], ◌∷◌, Option, Some, None}
use Rattle.std.proofs.Common.{is_some, refl, sym, ap, ◌∙◌, arith}
use Rattle.sched_plan.specs.Schedule.{Schedule}
use Rattle.sched_time.specs.Decision.{start_of}
use Rattle.sched_time.specs.declared.starts.Decision.{Decision}
use Rattle.sched_time.specs.declared.starts.Decision.TheVariants.{Go, Done}
use Rattle.sched_plan.specs.Answer.{answer, is_done}
use Rattle.sched_plan.specs.declared.history.Event.{Event}
use Rattle.sched_task.specs.declared.endings.How.{How}
use Rattle.sched_task.specs.declared.endings.How.TheVariants as how
use Rattle.sched_task.specs.declared.endings.RunFault.TheVariants as fault
use Rattle.sched_task_law.specs.Deadline.{is_past, late}
use Rattle.sched_task_law.specs.Kind.{a_retry}
use Rattle.sched_task_law.specs.Law.{Law, Ended}
use Rattle.sched_task_law.specs.Past.{Past, schedule_is_done, next_start_by, is_stopped, is_under_way}
use Rattle.sched_task_law.proofs.Law.{or_false}
use Rattle.sched_run_machine.specs.Machine.{WaitsInTime}
use Rattle.sched_run_machine.specs.Next.{next_of, next_by_ending, next_by_start}
use Rattle.sched_run_machine.specs.declared.next.Next.{Next}
use Rattle.sched_run_machine.specs.declared.next.Next.TheVariants as next
use Rattle.sched_handle.specs.Retries.{how_number, reply_to, was_timed_out, plan_is_done, is_late}

-- whether an ending says that the schedule was done
abbrev says_done : Option How → Bool
says_done (Some how.ScheduleDone) = true
says_done _ = false

-- the schedule is done exactly where that is the ending
undone : (v : Past) → is_stopped v ≡ false → schedule_is_done v.deadline v.driver ≡ false
undone v unstopped = (or_false v.denied (schedule_is_done v.deadline v.driver) unstopped).1

done_where : (keeps : Bool) (v : Past) (over : Option How) → Law (a_retry keeps) v → Ended (a_retry keeps) v over →
    schedule_is_done v.deadline v.driver ≡ says_done over
done_where keeps v (Some how.Won) law ended = undone v ended.1
done_where keeps v (Some how.ScheduleDone) law ended = ended.0
done_where keeps v (Some how.BudgetRefused) law ended = (law.denied ended).undone
done_where keeps v (Some how.DeadlinePassed) law ended = undone v ended.0
done_where keeps v (Some how.Failed) law ended = undone v ended.1
done_where keeps v _ law ended = undone v ended

-- a plan that is done has no start that is late
no_start : (d : Decision) → is_done d ≡ true → start_of d ≡ None
no_start (Go start) done = absurd cc
no_start Done done = refl

not_late : (deadline : Option ℕ) (s : Schedule) (h : List Event) →
    schedule_is_done None (record { plan = s; journal = h }) ≡ true →
    is_some (late deadline (next_start_by None (record { plan = s; journal = h }))) ≡ false
not_late deadline s [] done = absurd cc
not_late deadline s (e ∷ h) done = rw (no_start (answer s (e ∷ h)).decision done) refl

-- by whichever of both it is done, the number tells
told_done : (planned late : Bool) → (planned || late) ≡ true → (planned ≡ true → late ≡ false) →
    (planned ≡ nat_eq (if late then 8 else 2) 2) × (late ≡ nat_eq (if late then 8 else 2) 8)
told_done true true is apart = let isnt = apart refl in absurd cc
told_done false false is apart = absurd cc
told_done _ _ is apart = (refl, refl)

-- the number of an ending, or 0
abbrev number_of : Option How → Bool → ℕ
number_of None late = 0
number_of (Some ended) late = how_number ended late

told_unended : (running : Bool) (start : Option ℕ) (late : Bool) (granted runs left : ℕ) →
    (reply_to (if running then next.Run else next_by_start start) late granted runs left).how ≡ 0
told_unended true start late granted runs left = refl
told_unended false None late granted runs left = refl
told_unended _ start late granted runs left = refl

told_as : (v : Past) (over : Option How) (late : Bool) (granted runs left : ℕ) →
    (reply_to (next_by_ending v over) late granted runs left).how ≡ number_of over late
told_as v None late granted runs left =
    told_unended (is_under_way v.runs v.begun) (next_start_by v.deadline v.driver) late granted runs left
told_as v (Some ended) late granted runs left = refl

-- where neither is so, and the deadline did not end it as it waited
neither : (planned late : Bool) → (planned || late) ≡ false → (planned ≡ false) × ((late || false) ≡ false)
neither planned late is = let parts = or_false planned late is in (parts.0, rw parts.1 refl)

told_late : (planned late : Bool) → (planned || late) ≡ false → (planned ≡ false) × ((late || true) ≡ true)
told_late planned late is = let parts = or_false planned late is in (parts.0, rw parts.1 refl)

or_none : (late n : Bool) → late ≡ n → (late || false) ≡ n
or_none late n same = grind arith

told_by : (over : Option How) (planned late : Bool) → (planned || late) ≡ says_done over →
    (planned ≡ true → late ≡ false) →
    (planned ≡ nat_eq (number_of over late) 2) × ((late || was_timed_out over) ≡ nat_eq (number_of over late) 8)
told_by (Some how.ScheduleDone) planned late is apart =
    let told = told_done planned late is apart in (told.0, or_none late _ told.1)
told_by (Some how.DeadlinePassed) planned late is apart = told_late planned late is
told_by (Some (how.Broken fault.NoMemory)) planned late is apart = neither planned late is
told_by _ planned late is apart = neither planned late is

-- this number tells whether the plan is done, and whether the deadline ended the retry
abbrev pub TellsEnding : Option ℕ → Past → ℕ → Type 0
TellsEnding deadline v number =
    (plan_is_done v ≡ nat_eq number 2) × ((is_late deadline v || was_timed_out v.over) ≡ nat_eq number 8)

pub tells_ending : (keeps : Bool) (deadline : Option ℕ) (v : Past) (granted runs left : ℕ) → Law (a_retry keeps) v →
    schedule_is_done v.deadline v.driver ≡ (plan_is_done v || is_late deadline v) →
    TellsEnding deadline v (reply_to (next_of v) (is_late deadline v) granted runs left).how
tells_ending keeps deadline v granted runs left law parts =
    let planned = plan_is_done v in
    let late = is_late deadline v in
    let told = told_as v v.over late granted runs left in
    let by = told_by v.over planned late (sym parts ∙ done_where keeps v v.over law law.ended)
    (not_late deadline v.driver.plan v.driver.journal) in (
      by.0 ∙ ap (λ n. nat_eq n 2) (sym told),
      by.1 ∙ ap (λ n. nat_eq n 8) (sym told),
    )

-- what is told to wait for is in time
pub waits_in_time : (deadline : Option ℕ) (next : Next) (late : Bool) (granted runs left : ℕ) →
    WaitsInTime deadline next →
    (reply_to next late granted runs left).what ≡ 2 → is_past deadline (reply_to next late granted runs left).until ≡
    false
waits_in_time deadline (next.Wait start) late granted runs left in_time waits = in_time
waits_in_time deadline _ late granted runs left in_time waits = absurd cc
