-- What C gives of a course, and what it is told.
use Rattle.std.specs.Prelude.{◌≡◌, ◌≢◌, ℕ, ◌+◌, ◌<◌, ◌≤◌, List, [], ◌∷◌, map, flat_map, length, true, false, Option}
use Rattle.std.specs.Prelude.{Some, Result, Ok, Err, string_bytes}
use Rattle.std.specs.List.{All}
use Rattle.sched_time.specs.declared.numbers.TheConstants.{FAR}
use Rattle.sched_time.specs.declared.starts.Decision.{Decision}
use Rattle.sched_time.specs.declared.starts.Decision.TheVariants.{Go, Done}
use Rattle.sched_plan.specs.DatumText.{text_of}
use Rattle.sched_plan.specs.Schedule.{Schedule}
use Rattle.sched_plan_course.specs.Course.{Course}
use Rattle.sched_plan_course.specs.Lines.{course_lines}
use Rattle.sched_plan_course.specs.declared.lines.Line.{Line}
use Rattle.sched_handle.specs.Fills.{HasNoPolicy}
use Rattle.sched_handle.specs.Status.{code_of}
use Rattle.sched_handle.specs.declared.held.Held.{Held}
use Rattle.sched_handle.specs.declared.held.Held.TheVariants.{Policy}
use Rattle.sched_handle.specs.declared.status.Status.{Status}
use Rattle.sched_handle.specs.declared.status.Status.TheVariants.{WrongSize, OutOfRange}
use Rattle.hikebox_c.specs.Texts.{Writes}
use Rattle.hikebox_c.specs.declared.courses.CourseGiven.{CourseGiven}
use Rattle.hikebox_c.specs.declared.courses.CourseTold.{CourseTold}
use Rattle.hikebox_c.specs.declared.courses.EventGiven.{EventGiven}
use Rattle.hikebox_c.specs.declared.courses.LineTold.{LineTold}
use Rattle.hikebox_c.specs.declared.courses.SizedCourse.{SizedCourse}

abbrev pub InputIsInRange : EventGiven → Type 0
InputIsInRange e = e.input ≤ FAR

-- a course is given: its numbers are in range, and there is an event
pub record IsGiven (g : CourseGiven) (es : List EventGiven) : Type 0 where
  pub steps : g.steps ≤ 4096
  pub from : g.from ≤ FAR
  pub took : g.took ≤ FAR
  pub some_event : 0 < length es
  pub inputs : All InputIsInRange es

-- the course that is given: each event has the input and the words of its number, the last one repeated
abbrev pub course_given : CourseGiven → List EventGiven → Course
course_given g es = record {
  steps = g.steps;
  from = g.from;
  took = g.took;
  inputs = map (λ (e : EventGiven). e.input) es;
  words = map (λ (e : EventGiven). e.words) es;
}

-- the output of a line, as text; and all outputs, one after another
abbrev pub output_text : Line → List ℕ
output_text l = text_of l.output

abbrev pub outputs_text : List Line → List ℕ
outputs_text ls = flat_map output_text ls

-- what is told of an event at this moment, whose output ends at this place among the bytes of all
abbrev pub told_by : Decision → ℕ → ℕ → LineTold
told_by (Go start) moment to = record { moment = moment; start = start; text_to = to; goes_on = true }
told_by Done moment to = record { moment = moment; start = 0; text_to = to; goes_on = false }

-- the lines, where so many bytes stand before the output of the first
abbrev pub lines_told : ℕ → List Line → List LineTold
lines_told before [] = []
lines_told before (l ∷ ls) =
    told_by l.decision l.moment (before + length (output_text l)) ∷ lines_told (before + length (output_text l)) ls

-- these are the lines as C is told of them, and their outputs' text
pub record AreTold (ls : List Line) (told : CourseTold) : Type 0 where
  pub lines : told.lines.items ≡ lines_told 0 ls
  pub text : string_bytes told.text ≡ outputs_text ls

-- the course of the policy that a handle holds, or none: the struct has another size, or no course is given, or else
-- there is no policy, or no memory
abbrev pub StepsPolicy : SizedCourse → List EventGiven → Option Held → Result CourseTold Status → Type 0
StepsPolicy c es u (Ok told) = (c.size ≡ 32) × IsGiven c.course es
    × ((s : Schedule) × (u ≡ Some (Policy s)) × AreTold (course_lines s (course_given c.course es)) told)
StepsPolicy c es u (Err WrongSize) = c.size ≢ 32
StepsPolicy c es u (Err OutOfRange) = (c.size ≡ 32) × ¬ IsGiven c.course es
StepsPolicy c es u (Err s) = (c.size ≡ 32) × IsGiven c.course es × HasNoPolicy u s

-- the lines are written where there is room for them, and how many there are in any case; a reason is told by its
-- number
abbrev pub TellsLines : ℕ → List LineTold → List LineTold → ℕ → ℕ → Result CourseTold Status → Type 0
TellsLines code old new had has (Ok told) = (has ≡ length told.lines.items) × Writes told.lines.items code old new
TellsLines code old new had has (Err s) = (code ≡ code_of s) × (new ≡ old) × (has ≡ had)

-- the same of the text of all outputs
abbrev pub TellsOutputs : ℕ → List ℕ → List ℕ → ℕ → ℕ → Result CourseTold Status → Type 0
TellsOutputs code old new had has (Ok told) =
    (has ≡ length (string_bytes told.text)) × Writes (string_bytes told.text) code old new
TellsOutputs code old new had has (Err s) = (code ≡ code_of s) × (new ≡ old) × (has ≡ had)
