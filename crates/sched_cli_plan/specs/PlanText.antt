-- What is printed of a plan: a line for each event of its course.
use Rattle.std.specs.Prelude.{ℕ, List, ◌++◌, flat_map, codes, decimal}
use Rattle.sched_time.specs.declared.starts.Decision.{Decision}
use Rattle.sched_time.specs.declared.starts.Decision.TheVariants.{Go, Done}
use Rattle.sched_plan.specs.DatumText.{text_of}
use Rattle.sched_plan.specs.Schedule.{Schedule}
use Rattle.sched_plan_course.specs.Course.{Course}
use Rattle.sched_plan_course.specs.Lines.{course_lines}
use Rattle.sched_plan_course.specs.declared.lines.Line.{Line}

-- `next START`, or `done`
abbrev pub decision_text : Decision → List ℕ
decision_text (Go start) = codes " next " ++ decimal start
decision_text Done = codes " done"

-- `MOMENT: OUTPUT next START` or `MOMENT: OUTPUT done`
abbrev pub line_text : Line → List ℕ
line_text l = decimal l.moment ++ codes ": " ++ text_of l.output ++ decision_text l.decision ++ codes "\n"

-- the lines of a plan, one after another
abbrev pub lines_text : List Line → List ℕ
lines_text ls = flat_map line_text ls

-- what is printed of a plan
abbrev pub plan_text : Schedule → Course → List ℕ
plan_text s o = lines_text (course_lines s o)
