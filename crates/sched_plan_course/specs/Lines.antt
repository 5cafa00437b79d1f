-- What a plan does along a course, event by event.
use Rattle.std.specs.Prelude.{◌≡◌, List, map}
use Rattle.sched_plan.specs.Schedule.{Schedule}
use Rattle.sched_plan.specs.History.{last_moment, prefixes}
use Rattle.sched_plan.specs.Answer.{answer}
use Rattle.sched_plan.specs.declared.history.Event.{Event}
use Rattle.sched_step.specs.Progress.{Progress}
use Rattle.sched_step.specs.StateOf.{state_of}
use Rattle.sched_plan_course.specs.Course.{Course}
use Rattle.sched_plan_course.specs.Run.{run}
use Rattle.sched_plan_course.specs.declared.lines.Line.{Line}

-- the last event of a history: its moment, and what the schedule answers to it
abbrev pub line_after : Schedule → List Event → Line
line_after s h = record { moment = last_moment h; output = (answer s h).output; decision = (answer s h).decision }

-- a line for each event
abbrev pub lines_of : Schedule → List Event → List Line
lines_of s h = map (line_after s) (prefixes h)

-- a line for each event of the run, up to the first at which the schedule is done
abbrev pub course_lines : Schedule → Course → List Line
course_lines s o = lines_of s (run s o o.steps)

-- what a step has to give where this is the history with the step's event
pub record IsLine (s : Schedule) (h : List Event) (state : Progress) (line : Line) : Type 0 where
  pub state_is : state ≡ state_of s h
  pub line_is : line ≡ line_after s h
