-- What a task has done so far.
use Rattle.std.specs.Prelude.{◌≡◌, ℕ, Bool, true, false, not, ◌&&◌, ◌||◌, if◌then◌else◌, nat_lt}
use Rattle.std.specs.Prelude.{List, [], map, filter, count_by, length, Option, Some, None, option_map, is_some}
use mathlib.Core.Path.{ap}
use Rattle.sched_time.specs.declared.starts.Decision.{Decision}
use Rattle.sched_plan.specs.Datum.{Datum, num}
use Rattle.sched_plan.specs.Schedule.{Schedule}
use Rattle.sched_plan.specs.History.{prefixes}
use Rattle.sched_plan.specs.Answer.{answer, is_done}
use Rattle.sched_plan.specs.declared.history.Event.{Event}
use Rattle.sched_plan.specs.declared.history.Answer.{Answer}
use Rattle.sched_driver_tree.specs.Standing.{start_planned}
use Rattle.sched_driver.specs.Driven.{Driven, last_answer}
use Rattle.sched_effect.specs.Runs.{code_of}
use Rattle.sched_effect.specs.declared.ran.Ran.{Ran}
use Rattle.sched_task.specs.declared.endings.How.{How}
use Rattle.sched_task_law.specs.Kind.{Kind, calls}
use Rattle.sched_task_law.specs.Deadline.{is_past, ended_by, until}

-- What a task has done that is driven by a value of R.
pub record PastOf (R : Type 0) : Type 0 where
  pub driver : R
  -- the moment past which no run begins but the first, if there is one
  pub deadline : Option ℕ
  -- the finished runs, oldest first
  pub runs : List Ran
  -- the moments at which runs were begun
  pub begun : List ℕ
  -- how it ended
  pub over : Option How
  -- its draw of a ticket was answered None
  pub denied : Bool
  -- the tickets that it was granted
  pub granted : ℕ

-- where what drives it is its plan, and the journal of the steps that finished runs called for
abbrev pub Past : Type 0
Past = PastOf Driven

-- nothing yet
abbrev pub nothing_yet : {R : Type 0} → R → Option ℕ → PastOf R
nothing_yet driver deadline = record {
  driver = driver;
  deadline = deadline;
  runs = [];
  begun = [];
  over = None;
  denied = false;
  granted = 0;
}

-- a plan, and no step yet
abbrev pub unstepped : Schedule → Driven
unstepped plan = record { plan = plan; journal = [] }

abbrev pub nothing_until : Schedule → Option ℕ → Past
nothing_until plan deadline = nothing_yet (unstepped plan) deadline

-- what the schedule decides by the deadline at the last of these events
abbrev pub decision_on : Option ℕ → Schedule → List Event → Decision
decision_on deadline plan h = (until deadline (answer plan) h).decision

-- its answer to the last event of a journal, if there was one
abbrev pub last_by : Option ℕ → Driven → Option Answer
last_by None d = last_answer d.plan d.journal
last_by (Some deadline) d = option_map (ended_by (Some deadline)) (last_answer d.plan d.journal)

abbrev pub was_done : Option Answer → Bool
was_done None = false
was_done (Some given) = is_done given.decision

-- the schedule was done at the last event of the journal
abbrev pub schedule_is_done : Option ℕ → Driven → Bool
schedule_is_done deadline d = was_done (last_by deadline d)

-- the start planned last; none before the first event, and none where the schedule was done
abbrev pub next_start_by : Option ℕ → Driven → Option ℕ
next_start_by deadline d = start_planned (last_by deadline d)

-- on how many nonempty prefixes of the journal the schedule goes on
abbrev pub recurrences : Option ℕ → Driven → ℕ
recurrences deadline d = count_by (λ h. not (is_done (decision_on deadline d.plan h))) (prefixes d.journal)

-- the inputs of the journal's events
abbrev pub inputs : List Event → List Datum
inputs journal = map (λ e. e.input) journal

-- the codes of the runs that call for a step, as inputs
abbrev pub called_inputs : Kind → List Ran → List Datum
called_inputs kind runs = map (λ r. num (code_of r)) (filter (calls kind) runs)

-- of these finished runs and beginnings: a run is under way, since more were begun than have finished
abbrev pub is_under_way : List Ran → List ℕ → Bool
is_under_way runs begun = nat_lt (length runs) (length begun)

-- another run would begin past the deadline: none is under way, and one has finished
abbrev pub is_too_late : {R : Type 0} → PastOf R → ℕ → Bool
is_too_late v now = is_past v.deadline now && (nat_lt 0 (length v.runs) && not (is_under_way v.runs v.begun))

-- no run begins any more: the schedule was done, or the budget refused a ticket
abbrev pub is_stopped : Past → Bool
is_stopped v = v.denied || schedule_is_done v.deadline v.driver

-- The moment that it waits for, by the start planned last: that, where it is not over, no run is under way and none was
-- refused. A schedule that is done has planned none.
abbrev pub waits_by : {R : Type 0} → Option ℕ → PastOf R → Option ℕ
waits_by start v = if is_some v.over || (is_under_way v.runs v.begun || v.denied) then None else start

abbrev pub waits_for : Past → Option ℕ
waits_for v = waits_by (next_start_by v.deadline v.driver) v

-- 1 where it holds
abbrev pub bit : Bool → ℕ
bit b = if b then 1 else 0

-- what is over waits for nothing
pub waits_by-over : {R : Type 0} (start : Option ℕ) (v : PastOf R) → is_some v.over ≡ true → waits_by start v ≡ None
waits_by-over start v over = ap (λ b. if b || (is_under_way v.runs v.begun || v.denied) then None else start) over
