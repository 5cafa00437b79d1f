-- The events of a plan that is stepped along a course.
use Rattle.std.specs.Prelude.{ℕ, ◌+◌, suc, zero, List, [], ◌∷◌, ◌++◌, length, Option, Some, None, option_map}
use Rattle.sched_time.specs.Capped.{capped}
use Rattle.sched_time.specs.Decision.{start_of}
use Rattle.sched_plan.specs.Datum.{num}
use Rattle.sched_plan.specs.Schedule.{Schedule}
use Rattle.sched_plan.specs.Answer.{answer}
use Rattle.sched_plan.specs.declared.history.Event.{Event}
use Rattle.sched_plan_course.specs.Course.{Course, item_or_last}

-- event n of the run: the last input and the last words are those of all later events too
abbrev pub event_at : Course → ℕ → ℕ → Event
event_at o n now = record { now = now; words = item_or_last [] o.words n; input = num (item_or_last 0 o.inputs n) }

-- the moment of the event that follows: `from` at first, then the planned start and the time that its work took
abbrev pub next_moment : Schedule → Course → List Event → Option ℕ
next_moment s o [] = Some o.from
next_moment s o (e ∷ h) = option_map (λ start. capped (start + o.took)) (start_of (answer s (e ∷ h)).decision)

-- the history with the event at this moment, if there is one
abbrev pub and_at : Course → List Event → Option ℕ → List Event
and_at o h None = h
and_at o h (Some now) = h ++ event_at o (length h) now ∷ []

-- the first n events of the run, or as many as come before the schedule is done
abbrev pub run : Schedule → Course → ℕ → List Event
run s o zero = []
run s o (suc n) = and_at o (run s o n) (next_moment s o (run s o n))
