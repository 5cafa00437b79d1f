-- What a deadline means, on every history, plan and task.
use Rattle.std.specs.Prelude.{◌≡◌, ℕ, ◌<◌, Bool, true, false, List, length, Option}
use Rattle.sched_time.specs.Decision.{start_of}
use Rattle.sched_time.specs.declared.numbers.Tick.{Tick}
use Rattle.sched_plan.specs.Schedule.{Schedule}
use Rattle.sched_plan.specs.Answer.{answer}
use Rattle.sched_plan.specs.declared.history.Event.{Event}
use Rattle.sched_task_law.specs.Deadline.{is_past, in_time, until}
use Rattle.sched_task_law.specs.Kind.{Kind}
use Rattle.sched_task_law.specs.Past.{Past, is_under_way}
use Rattle.sched_task_law.specs.Poll.{OnePoll}

-- a schedule gives the same outputs by a deadline, and the same starts, except that it has none past the deadline
abbrev pub DeadlinesEndLaterStarts : Type 0
DeadlinesEndLaterStarts = (deadline : Option ℕ) (s : Schedule) (h : List Event) →
    ((until deadline (answer s) h).output ≡ (answer s h).output)
    × (start_of (until deadline (answer s) h).decision ≡ in_time deadline (start_of (answer s h).decision))

-- past its deadline a task with no run under way begins none, unless it has had none
abbrev pub NoneBeginsLate : Type 0
NoneBeginsLate = (kind : Kind) (v : Past) (t : Tick) (ready : Bool) (u : Past) → OnePoll kind v t ready u →
    is_past v.deadline t.now ≡ true → is_under_way v.runs v.begun ≡ false → 0 < length v.runs → u.begun ≡ v.begun
