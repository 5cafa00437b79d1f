-- What the calls on a retry do.
use Rattle.std.specs.Prelude.{◌≡◌, ℕ, ◌-◌, Bool, true, false, ◌||◌, if◌then◌else◌, nat_eq, [], ◌∷◌, length, min, Option}
use Rattle.std.specs.Prelude.{Some, None, is_some, option_map, Result, Ok, Err}
use Rattle.std.specs.Global.{Global}
use Rattle.std_alloc.specs.declared.boxed.Box.{Box}
use Rattle.sched_time.specs.declared.numbers.Tick.{Tick}
use Rattle.sched_plan.specs.Schedule.{Schedule}
use Rattle.sched_driver_stepper.specs.Standing.{Standing, standing_after}
use Rattle.sched_effect.specs.declared.ran.Ran.{Ran}
use Rattle.sched_task.specs.declared.endings.How.{How}
use Rattle.sched_task.specs.declared.endings.How.TheVariants as how
use Rattle.sched_task.specs.declared.endings.RunFault.TheVariants as fault
use Rattle.sched_task_law.specs.Kind.{a_retry}
use Rattle.sched_task_law.specs.Past.{Past, schedule_is_done, next_start_by}
use Rattle.sched_run_machine.specs.Retrying.{Retrying, GivesUp as GivesUpSo}
use Rattle.sched_task_law.specs.Deadline.{is_past, late}
use Rattle.sched_run_machine.specs.Drives.{Until, by_stepper, by_until}
use Rattle.sched_run_machine.specs.Machine.{Machine, begins, unbegun, is_told, Cancels as CancelsMachine, IsMachineOf}
use Rattle.sched_run_machine.specs.Machine.{PollsEach, PollsInTime}
use Rattle.sched_run_machine.specs.Next.{next_of}
use Rattle.sched_ticket_draws.specs.Drawing.{drawing_grants}
use Rattle.sched_ticket_draws.specs.declared.drawing.Drawing.{Drawing}
use Rattle.sched_run_machine.specs.declared.next.Next.{Next}
use Rattle.sched_run_machine.specs.declared.next.Next.TheVariants as next
use Rattle.sched_handle.specs.Held.{OtherKind}
use Rattle.sched_handle.specs.Drawing.{Parted, NoSplit}
use Rattle.sched_handle.specs.declared.held.Held.{Held}
use Rattle.sched_handle.specs.declared.held.Held.TheVariants.{Policy, Pass, Retry}
use Rattle.sched_handle.specs.declared.replies.Reply.{Reply}
use Rattle.sched_handle.specs.declared.status.Status.{Status}
use Rattle.sched_handle.specs.declared.status.Status.TheVariants.{WrongKind, NoMemory, NoRun}

-- A retry as its handle holds it: a machine whose driver keeps no journal, so that it may stand for many lists of runs,
-- and has a deadline or none.
abbrev pub Hosted : Type 0
Hosted = Machine (Until Standing) Drawing

-- it may stand for this retry, by its policy and its deadline
abbrev pub MayBe : Hosted → Retrying Drawing → Type 0
MayBe m u = IsMachineOf (by_until by_stepper) (a_retry false) drawing_grants m u

-- the number by which C knows how a retry ended: of one that is done, by its deadline or by its plan; the deadline also
-- ended one whose next run would have begun past it
abbrev pub how_number : How → Bool → ℕ
how_number how.Won is_late = 1
how_number how.ScheduleDone is_late = if is_late then 8 else 2
how_number how.BudgetRefused is_late = 3
how_number how.DeadlinePassed is_late = 8
how_number how.Cancelled is_late = 4
how_number (how.Broken fault.NoMemory) is_late = 5
how_number (how.Broken fault.JournalFull) is_late = 6
how_number (how.Broken fault.Backwards) is_late = 7
how_number how.Failed is_late = 9

-- what is to be done: what, how it ended, the moment to wait for, the tickets granted, the runs reported and the time
-- left
abbrev pub reply_to : Next → Bool → ℕ → ℕ → ℕ → Reply
reply_to next.Poll is_late granted runs left =
    record { what = 0; how = 0; until = 0; granted = granted; runs = runs; left = left }
reply_to next.Run is_late granted runs left =
    record { what = 1; how = 0; until = 0; granted = granted; runs = runs; left = left }
reply_to (next.Wait start) is_late granted runs left =
    record { what = 2; how = 0; until = start; granted = granted; runs = runs; left = left }
reply_to (next.Over h) is_late granted runs left =
    record { what = 3; how = how_number h is_late; until = 0; granted = granted; runs = runs; left = left }

-- whether a retry ended where its next run would have begun past the deadline
abbrev pub was_timed_out : Option How → Bool
was_timed_out (Some how.DeadlinePassed) = true
was_timed_out _ = false

-- whether the plan of a retry, without its deadline, is done; and whether it has a start that is past the deadline
abbrev pub plan_is_done : Past → Bool
plan_is_done v = schedule_is_done None v.driver

abbrev pub is_late : Option ℕ → Past → Bool
is_late deadline v = is_some (late deadline (next_start_by None v.driver))

-- how long a retry has at a moment up to its deadline: 0 where that is past, and 2^64 - 1 without one
abbrev pub left_number : Option ℕ → ℕ
left_number None = 18446744073709551615
left_number (Some left) = left

abbrev pub left_at : Option ℕ → ℕ → ℕ
left_at deadline now = left_number (option_map (λ end. end - now) deadline)

-- of runs past 2^64 - 1 that many are told
abbrev pub reply_of : Option ℕ → ℕ → Past → Reply
reply_of deadline now v = reply_to (next_of v) (is_late deadline v) v.granted
    (min (length v.runs) 18446744073709551615) (left_at deadline now)

-- What a retry is at, at this moment: there is a retry that it may stand for, and of each such one this is told. It
-- waits for no moment past its deadline. It has ended as done exactly where its plan is done, and as late exactly where
-- that has a start past the deadline or its next run would have begun past it.
pub record Shows (m : Hosted) (now : ℕ) (x : Reply) : Type 0 where
  pub stands : (u : Retrying Drawing) × MayBe m u
  pub tells : (u : Retrying Drawing) → MayBe m u → x ≡ reply_of m.driver.deadline now u.past
  pub in_time : x.what ≡ 2 → is_past m.driver.deadline x.until ≡ false
  pub done : (u : Retrying Drawing) → MayBe m u → plan_is_done u.past ≡ nat_eq x.how 2
  pub late : (u : Retrying Drawing) → MayBe m u →
      (is_late m.driver.deadline u.past || was_timed_out u.past.over) ≡ nat_eq x.how 8

-- A retry that has not begun, of this policy, with this deadline or none: the one that has done nothing yet is among
-- those that it may stand for.
pub record IsUnbegun (plan : Schedule) (deadline : Option ℕ) (m : Hosted) : Type 0 where
  pub begins_so : m ≡ begins drawing_grants (record { driver = standing_after plan []; deadline = deadline }) m.drawing
  pub stands : MayBe m (unbegun drawing_grants plan deadline m.drawing)

-- and one that draws by this
abbrev pub IsFresh : Schedule → Option ℕ → Drawing → Held → Type 0
IsFresh plan deadline d v = (m : Hosted) × (v ≡ Retry m) × (m.drawing ≡ d) × IsUnbegun plan deadline m

-- a retry of this plan is made, and draws by what is split off this, or none for this reason
abbrev pub Begins : Option ℕ → Schedule → Drawing → Result (Box Held Global) Status → Drawing → Type 0
Begins deadline plan d (Ok b) e = (part : Drawing) × Parted d part e × IsFresh plan deadline part b.value
Begins deadline plan d (Err s) e = NoSplit d s e

-- a retry of a policy is made with a pass that is split off, which has no ticket
abbrev pub PassRetries : Option ℕ → Schedule → Drawing → Result (Box Held Global) Status → Held → Type 0
PassRetries deadline plan d r v = (e : Drawing) × (v ≡ Pass e) × Begins deadline plan d r e

-- with what is no pass, a retry is refused for this reason
abbrev pub OtherRetries : Held → Result (Box Held Global) Status → Held → Type 0
OtherRetries u (Err WrongKind) v = v ≡ u
OtherRetries u (Err NoMemory) v = v ≡ u
OtherRetries u (Err _) v = ⊥
OtherRetries u (Ok b) v = ⊥

abbrev pub Retries : Option ℕ → Held → Held → Result (Box Held Global) Status → Held → Type 0
Retries deadline (Policy plan) (Pass d) r v = PassRetries deadline plan d r v
Retries deadline (Policy plan) u r v = OtherRetries u r v
Retries deadline policy u r v = OtherKind u r v

-- The run under way ends as it is reported: one poll of each retry that it may stand for. Its deadline stays.
pub record IsReport (m : Hosted) (t : Tick) (ran : Ran) (n : Hosted) : Type 0 where
  pub polls : PollsEach (by_until by_stepper) (a_retry false) drawing_grants m t (ran ∷ []) n
  pub deadline : n.driver.deadline ≡ m.driver.deadline

-- One poll of each retry that it may stand for, in which no run finishes; its deadline stays. Past that, no run begins
-- but the first.
pub record IsPoll (m : Hosted) (t : Tick) (n : Hosted) : Type 0 where
  pub polls : PollsEach (by_until by_stepper) (a_retry false) drawing_grants m t [] n
  pub deadline : n.driver.deadline ≡ m.driver.deadline
  pub in_time : PollsInTime drawing_grants m.driver.deadline m t.now n

-- the run under way ends as it is reported, and then one begins where it may
abbrev pub Ends : Hosted → Tick → Ran → Hosted → Type 0
Ends m t ran n = (k : Hosted) × IsReport m t ran k × IsPoll k t n

-- a poll, after a report where there is one
abbrev pub RetryPolls : Tick → Option Ran → Hosted → Result Reply Status → Hosted → Type 0
RetryPolls t None m (Ok x) n = IsPoll m t n × Shows n t.now x
RetryPolls t (Some ran) m (Ok x) n = Ends m t ran n × Shows n t.now x
RetryPolls t (Some ran) m (Err NoRun) n = (is_told m ≡ false) × (n ≡ m)
RetryPolls t report m (Err _) n = ⊥

abbrev pub Polls : Tick → Option Ran → Held → Result Reply Status → Held → Type 0
Polls t report (Retry m) x v = (n : Hosted) × (v ≡ Retry n) × RetryPolls t report m x n
Polls t report u x v = OtherKind u x v

-- a run: a poll without a report where it begins, and then one with its report where it ends
abbrev pub RetryRans : Tick → Tick → Option Ran → Hosted → Result Reply Status → Hosted → Type 0
RetryRans began ended report m x n = (k : Hosted) × IsPoll m began k × RetryPolls ended report k x n

abbrev pub Rans : Tick → Tick → Option Ran → Held → Result Reply Status → Held → Type 0
Rans began ended report (Retry m) x v = (n : Hosted) × (v ≡ Retry n) × RetryRans began ended report m x n
Rans began ended report u x v = OtherKind u x v

-- a retry that is not over ends as cancelled, whichever it is
pub record GivesUp (m n : Hosted) : Type 0 where
  pub cancels : CancelsMachine drawing_grants m n
  pub stands : (u : Retrying Drawing) → MayBe m u →
      (w : Retrying Drawing) × GivesUpSo drawing_grants u w × MayBe n w

abbrev pub Cancels : Held → Result (Unit {0}) Status → Held → Type 0
Cancels (Retry m) x v = (x ≡ Ok tt) × (n : Hosted) × (v ≡ Retry n) × GivesUp m n
Cancels u x v = OtherKind u x v
