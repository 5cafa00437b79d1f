-- What is printed of jobs that have ended: a line for each in order of their numbers, and the total.
use Rattle.std.specs.Prelude.{◌≡◌, ℕ, ◌+◌, ◌-◌, slice_get, length, List, [], ◌∷◌, ◌++◌, Option, Some, None}
use Rattle.std.specs.Prelude.{String, codes, decimal, string_bytes}
use Rattle.sched_effect.specs.Runs.{code_of}
use Rattle.sched_effect.specs.declared.ran.Ran.{Ran}
use Rattle.sched_task.specs.declared.endings.How.{How}
use Rattle.sched_task.specs.declared.endings.How.TheVariants.{Won, ScheduleDone, BudgetRefused, DeadlinePassed, Failed}
use Rattle.sched_task.specs.declared.endings.How.TheVariants.{Cancelled, Broken}
use Rattle.sched_task.specs.declared.endings.RunFault.TheVariants.{NoMemory, JournalFull, Backwards}
use Rattle.sched_task_law.specs.Past.{Past}

-- the lines have this text more, at their end
abbrev pub Adds : {Z : Type 0} → String Z → List ℕ → String Z → Type 0
Adds lines text lines' = string_bytes lines' ≡ string_bytes lines ++ text

abbrev pub code_or_0 : Option Ran → ℕ
code_or_0 None = 0
code_or_0 (Some run) = code_of run

-- the code of the last run, or 0 where none has finished
abbrev pub last_code : List Ran → ℕ
last_code runs = code_or_0 (slice_get runs (length runs - 1))

-- how a job ended, with the code of its last run. A retry never ends as failed.
abbrev pub ending_text : Option How → ℕ → List ℕ
ending_text (Some Won) code = codes "won " ++ decimal code
ending_text (Some ScheduleDone) code = codes "schedule done, failure " ++ decimal code
ending_text (Some BudgetRefused) code = codes "budget refused, failure " ++ decimal code
ending_text (Some DeadlinePassed) code = codes "deadline passed, failure " ++ decimal code
ending_text (Some Failed) code = codes "failed " ++ decimal code
ending_text (Some Cancelled) code = codes "cancelled"
ending_text (Some (Broken NoMemory)) code = codes "broken, no memory"
ending_text (Some (Broken JournalFull)) code = codes "broken, journal full"
ending_text (Some (Broken Backwards)) code = codes "broken, clock went back"
ending_text None code = codes "not over"

-- `job K: ENDING, granted G`
abbrev pub line_text : ℕ → Option How → List Ran → ℕ → List ℕ
line_text number how runs granted =
    codes "job " ++ decimal number ++ codes ": " ++ ending_text how (last_code runs)
    ++ codes ", granted " ++ decimal granted ++ codes "\n"

-- the line of a job with this number
abbrev pub job_text : ℕ → Past → List ℕ
job_text number v = line_text number v.over v.runs v.granted

-- the lines of jobs that are numbered from here on
abbrev pub lines_from : ℕ → List Past → List ℕ
lines_from number [] = []
lines_from number (v ∷ ends) = job_text number v ++ lines_from (number + 1) ends

-- `granted T of L`
abbrev pub total_text : ℕ → ℕ → List ℕ
total_text granted limit = codes "granted " ++ decimal granted ++ codes " of " ++ decimal limit ++ codes "\n"

-- what is printed of the jobs, the tickets that were granted, and the budget
abbrev pub pool_text : List Past → ℕ → ℕ → List ℕ
pool_text ends granted limit = lines_from 0 ends ++ total_text granted limit

-- `granted T in W windows`
abbrev pub windows_text : ℕ → ℕ → List ℕ
windows_text granted windows =
    codes "granted " ++ decimal granted ++ codes " in " ++ decimal windows ++ codes " windows\n"

-- what is printed of jobs on a quota, the tickets that were granted, and in how many windows
abbrev pub quota_text : List Past → ℕ → ℕ → List ℕ
quota_text ends granted windows = lines_from 0 ends ++ windows_text granted windows
