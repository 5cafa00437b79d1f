-- One poll of a task: what may happen, when, and the whole record after it.
use Rattle.std.specs.Prelude.{◌≡◌, ℕ, ◌+◌, ◌<◌, ◌≤◌, ◌⊎◌, Bool, true, false, if◌then◌else◌}
use Rattle.std.specs.Prelude.{List, [], ◌∷◌, ◌++◌, length, Some, None, is_some, IsTrue, IfSome, IsSomeAnd}
use Rattle.sched_time.specs.declared.numbers.Tick.{Tick}
use Rattle.sched_plan.specs.Datum.{num}
use Rattle.sched_plan.specs.History.{last_moment}
use Rattle.sched_plan.specs.declared.history.Event.{Event}
use Rattle.sched_step.specs.StateOf.{event_of}
use Rattle.sched_driver.specs.Driven.{Driven, after as driven_after}
use Rattle.sched_driver.specs.Driver.{HasRoom}
use Rattle.sched_effect.specs.Runs.{code_of}
use Rattle.sched_effect.specs.declared.ran.Ran.{Ran}
use Rattle.sched_task.specs.declared.endings.How.TheVariants.{ScheduleDone, BudgetRefused, DeadlinePassed, Cancelled}
use Rattle.sched_task.specs.declared.endings.How.TheVariants.{Broken}
use Rattle.sched_task.specs.declared.endings.RunFault.{RunFault}
use Rattle.sched_task.specs.declared.endings.RunFault.TheVariants.{NoMemory, JournalFull, Backwards}
use Rattle.sched_task_law.specs.Kind.{Kind, keeps, draws, calls, final}
use Rattle.sched_task_law.specs.Past.{PastOf, Past, schedule_is_done, is_under_way, is_too_late, is_stopped, waits_for}

-- What happens in a poll.
pub data Happened : Type 0 where
  -- nothing is polled: the task is over, or waits for a later moment
  stays : Happened
  -- there is no memory to note the beginning of a run, and nothing is polled
  cannot_begin : Happened
  -- the run is not finished
  runs_on : Happened
  -- memory is refused to the run
  cannot_run : Happened
  -- the run finishes and calls for no step of the schedule
  ends : Ran → Happened
  -- the run finishes, and the step that it calls for is refused
  breaks : Ran → RunFault → Happened
  -- the run finishes, and the schedule is done
  stops_done : Ran → Happened
  -- the run finishes and the schedule goes on, but the budget has no ticket
  stops_denied : Ran → Happened
  -- the run finishes and the schedule goes on, with a ticket where one is needed
  recurs : Ran → Happened
  -- another run would begin past the deadline, which ends the task
  times_out : Happened

-- the moments at which runs were begun, once one is under way: it begins at the tick where none was
abbrev pub begun_by : Past → Tick → List ℕ
begun_by v t = if is_under_way v.runs v.begun then v.begun else v.begun ++ t.now ∷ []

-- the task with a run under way
abbrev pub started : Past → Tick → Past
started v t = record v { begun = begun_by v t }

-- and with this run finished
abbrev pub finished : Past → Tick → Ran → Past
finished v t r = record v { begun = begun_by v t; runs = v.runs ++ r ∷ [] }

-- the event of the step that a run calls for
abbrev pub step_event : Tick → Ran → Event
step_event t r = event_of t (num (code_of r))

-- and with the step of the schedule that it calls for
abbrev pub stepped : Past → Tick → Ran → Past
stepped v t r = record v {
  begun = begun_by v t;
  runs = v.runs ++ r ∷ [];
  driver = driven_after v.driver (step_event t r);
}

-- the whole record after a poll in which this happened
abbrev pub after : Kind → Past → Tick → Happened → Past
after kind v t stays = v
after kind v t cannot_begin = record v { over = Some (Broken NoMemory) }
after kind v t runs_on = started v t
after kind v t cannot_run = record (started v t) { over = Some (Broken NoMemory) }
after kind v t (ends r) = record (finished v t r) { over = Some (final kind) }
after kind v t (breaks r fault) = record (finished v t r) { over = Some (Broken fault) }
after kind v t (stops_done r) = record (stepped v t r) { over = Some ScheduleDone }
after kind v t (stops_denied r) = record (stepped v t r) { denied = true; over = Some BudgetRefused }
after kind v t (recurs r) = record (stepped v t r) { granted = if draws kind then v.granted + 1 else v.granted }
after kind v t times_out = record v { over = Some DeadlinePassed }

-- A task is polled where it is not over, is not stopped, and waits for no later moment.
pub record IsDue (v : Past) (t : Tick) : Type 0 where
  pub unended : v.over ≡ None
  pub unstopped : is_stopped v ≡ false
  pub due : IfSome (waits_for v) (λ m. m ≤ t.now)

-- A run is polled then, unless it would be another one that begins past the deadline.
pub record CanRun (v : Past) (t : Tick) : Type 0 where
  pub is_due : IsDue v t
  pub in_time : is_too_late v t.now ≡ false

-- There is room for one more event: its moment is not before the last one's, and a journal that is kept is not full.
abbrev pub RoomIn : Bool → Driven → ℕ → Type 0
RoomIn true d now = HasRoom d now
RoomIn false d now = last_moment d.journal ≤ now

-- A finished run steps the schedule where it calls for a step and there is room for its event.
pub record Steps (kind : Kind) (v : Past) (t : Tick) (r : Ran) : Type 0 where
  pub can : CanRun v t
  pub called : calls kind r ≡ true
  pub room : RoomIn (keeps kind) v.driver t.now

-- Each refusal of a step comes only in its own case: where no journal is kept, none is full.
abbrev pub RefusedIn : Bool → Driven → ℕ → RunFault → Type 0
RefusedIn kept d now Backwards = now < last_moment d.journal
RefusedIn true d now JournalFull = (last_moment d.journal ≤ now) × (length d.journal ≡ 65536)
RefusedIn false d now JournalFull = ⊥
RefusedIn kept d now NoMemory = RoomIn kept d now

-- when this may happen
abbrev pub May : Kind → Past → Tick → Happened → Type 0
May kind v t stays = IsTrue (is_some v.over) ⊎ IsSomeAnd (waits_for v) (λ m. t.now < m)
May kind v t cannot_begin = CanRun v t × (is_under_way v.runs v.begun ≡ false)
May kind v t runs_on = CanRun v t
May kind v t cannot_run = CanRun v t
May kind v t (ends r) = CanRun v t × (calls kind r ≡ false)
May kind v t (breaks r fault) = CanRun v t × (calls kind r ≡ true) × RefusedIn (keeps kind) v.driver t.now fault
May kind v t (stops_done r) = Steps kind v t r × (schedule_is_done v.deadline (driven_after v.driver (step_event t r)) ≡
    true)
May kind v t (stops_denied r) =
    Steps kind v t r × (schedule_is_done v.deadline (driven_after v.driver (step_event t r)) ≡ false)
    × (draws kind ≡ true)
May kind v t (recurs r) = Steps kind v t r × (schedule_is_done v.deadline (driven_after v.driver (step_event t r)) ≡
    false)
May kind v t times_out = IsDue v t × (is_too_late v t.now ≡ true)

-- One poll of a task, exactly: something happened that may, the task is as that leaves it, and the poll was ready where
-- the task is over after it.
pub record OnePoll (kind : Kind) (v : Past) (t : Tick) (ready : Bool) (u : Past) : Type 0 where
  pub happened : Happened
  pub may : May kind v t happened
  pub leaves : u ≡ after kind v t happened
  pub ready_is : ready ≡ is_some u.over

-- a task that is not over is cancelled
abbrev pub cancelled : {R : Type 0} → PastOf R → PastOf R
cancelled v = record v { over = if is_some v.over then v.over else Some Cancelled }
