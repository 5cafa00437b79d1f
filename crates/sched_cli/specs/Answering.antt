-- What the program does with a text, and what it tells where it stops.
use Rattle.std.specs.Prelude.{◌≡◌, ℕ, true, false, List, [], codes, Option, Some, None, Result, Ok, Err, string_bytes}
use Rattle.std.specs.declared.io.Error.{Error}
use Rattle.sched_plan_hint.specs.Faults.{told_text}
use Rattle.sched_plan_hint.specs.Faults as plans
use Rattle.sched_plan_hint.specs.declared.faults.ToldFault.{ToldFault}
use Rattle.sched_cli_check.specs.Checking.{PrintsCheck}
use Rattle.sched_cli_check.specs.JobsFaults as jobs
use Rattle.sched_plan_course.specs.Course.{course_of, steady}
use Rattle.sched_cli_plan.specs.Printing.{Prints, IsInput}
use Rattle.sched_cli_plan.specs.Whole.{IsWholeInput, StopsReading}
use Rattle.sched_cli_plan.specs.declared.faults.PrintFault.{PrintFault}
use Rattle.sched_cli_plan.specs.declared.faults.PrintFault.TheVariants.{ReadFailed, TooLong, NotJson, NotAPlan}
use Rattle.sched_cli_plan.specs.declared.faults.PrintFault.TheVariants.{OutOfRange}
use Rattle.sched_cli_plan.specs.declared.faults.PrintFault.TheVariants.{TooDeep, TooMany, NoMemory, WriteFailed}
use Rattle.std.specs.Io.KnownBytes.{Keeps}
use Rattle.sched_cli_storm.specs.StormPrinting.{PrintsStorm}
use Rattle.sched_cli_pool.specs.PoolPrinting.{PrintsPool}
use Rattle.sched_cli_pool.specs.QuotaPrinting.{PrintsQuotaPool}
use Rattle.sched_cli_pool.specs.declared.faults.PoolFault.{PoolFault}
use Rattle.sched_cli_pool.specs.declared.faults.PoolFault.TheVariants.{Print, NotStarted, Unfinished, Mixed}
use Rattle.sched_cli_words.specs.Options.{origin_of}
use Rattle.sched_cli_words.specs.declared.options.Asked.{Asked}
use Rattle.sched_cli_words.specs.declared.options.Asked.TheVariants as asked
use Rattle.sched_cli_words.specs.declared.options.Origin.{Origin}
use Rattle.sched_cli_words.specs.declared.options.Origin.TheVariants.{StandardInput, File}
use Rattle.sched_cli.specs.Stops.{TellsError}
use Rattle.sched_cli.specs.declared.stops.Told.{Told}
use Rattle.sched_cli.specs.declared.stops.Told.TheVariants.{Quiet, Alone, More}
use Rattle.sched_cli.specs.declared.stops.Stop.{Stop}

-- P is true of each input, before and after it is read, of which these bytes are the whole
abbrev pub ForInput : List ℕ → (Option (List ℕ) → Option (List ℕ) → Type 0) → Type 0
ForInput bytes P = (left left' : Option (List ℕ)) → IsWholeInput left left' bytes → P left left'

-- what is answered of a printing
abbrev pub as_answer : Result (Unit {0}) PrintFault → Result (Unit {0}) PoolFault
as_answer (Ok done) = Ok done
as_answer (Err fault) = Err (Print fault)

-- a fault is one of printing
abbrev pub OfPrint : (Result (Unit {0}) PrintFault → Type 0) → Result (Unit {0}) PoolFault → Type 0
OfPrint P (Ok done) = P (Ok done)
OfPrint P (Err (Print fault)) = P (Err fault)
OfPrint P (Err NotStarted) = ⊥
OfPrint P (Err Unfinished) = ⊥
OfPrint P (Err Mixed) = ⊥

-- what is answered of a storm, of which `Unfinished` says that it was cut
abbrev pub AnswersStorm : Option (List ℕ) → Option (List ℕ) → Option (List ℕ) → Option (List ℕ) →
    Result (Unit {0}) PoolFault → Type 0
AnswersStorm left left' taken taken' (Ok done) = IsInput left left' (λ bytes. PrintsStorm bytes taken taken' (Ok false))
AnswersStorm left left' taken taken' (Err Unfinished) =
    IsInput left left' (λ bytes. PrintsStorm bytes taken taken' (Ok true))
AnswersStorm left left' taken taken' (Err NotStarted) = ⊥
AnswersStorm left left' taken taken' (Err Mixed) = ⊥
AnswersStorm left left' taken taken' (Err (Print ReadFailed)) = StopsReading ReadFailed left left' × Keeps taken taken'
AnswersStorm left left' taken taken' (Err (Print TooLong)) = StopsReading TooLong left left' × Keeps taken taken'
AnswersStorm left left' taken taken' (Err (Print NoMemory)) = Keeps taken taken'
AnswersStorm left left' taken taken' (Err (Print fault)) =
    IsInput left left' (λ bytes. PrintsStorm bytes taken taken' (Err fault))

-- what is asked for is done
abbrev pub Answers : Asked → Option (List ℕ) → Option (List ℕ) → Option (List ℕ) → Option (List ℕ) →
    Result (Unit {0}) PoolFault → Type 0
Answers (asked.Plan options origin) left left' taken taken' result =
    OfPrint (λ r. Prints (steady options) left left' taken taken' r) result
Answers (asked.Course course origin) left left' taken taken' result =
    OfPrint (λ r. Prints (course_of course) left left' taken taken' r) result
Answers (asked.Pool options origin) left left' taken taken' result =
    PrintsPool options left left' taken taken' result
Answers (asked.Quota options origin) left left' taken taken' result =
    PrintsQuotaPool options left left' taken taken' result
Answers (asked.Storm options origin) left left' taken taken' result =
    AnswersStorm left left' taken taken' result
Answers (asked.Check origin) left left' taken taken' result =
    OfPrint (λ r. PrintsCheck left left' taken taken' r) result

-- what is asked for is done with a text that is there as a whole
abbrev pub AnswersText : List ℕ → Asked → Option (List ℕ) → Option (List ℕ) → Result (Unit {0}) PoolFault → Type 0
AnswersText bytes asked taken taken' result =
    ForInput bytes (λ left left'. Answers asked left left' taken taken' result)

-- what is answered, but for what is told
abbrev pub stopped : Result (Unit {0}) Stop → Result (Unit {0}) PoolFault
stopped (Ok done) = Ok done
stopped (Err stop) = Err stop.fault

-- a second line tells this fault, if there is one
abbrev pub IsLineOf : Option ToldFault → Told → Type 0
IsLineOf None told = told ≡ Alone
IsLineOf (Some fault) Quiet = ⊥
IsLineOf (Some fault) Alone = ⊥
IsLineOf (Some fault) (More line) = string_bytes line ≡ told_text fault

-- what is told is the line of a fault, or that there is none, of which P is true
abbrev pub TellsSome : (Option ToldFault → Type 0) → Told → Type 0
TellsSome P told = (found : Option ToldFault) × P found × IsLineOf found told

-- of a text that is refused its first fault is told, as a plan, where that is the only one, or as jobs; a check has
-- printed it
abbrev pub TellsText : Asked → List ℕ → Told → Type 0
TellsText (asked.Plan options origin) bytes told = TellsSome (plans.FindsFault bytes) told
TellsText (asked.Course course origin) bytes told = TellsSome (plans.FindsFault bytes) told
TellsText (asked.Pool options origin) bytes told = TellsSome (jobs.FindsFault bytes) told
TellsText (asked.Quota options origin) bytes told = TellsSome (jobs.FindsFault bytes) told
TellsText (asked.Storm options origin) bytes told =
    options.texts.items ≡ [] → TellsSome (plans.FindsFault bytes) told
TellsText (asked.Check origin) bytes told = told ≡ Alone

-- how a text's origin is named
abbrev pub name_of : Origin → List ℕ
name_of StandardInput = codes "standard input"
name_of (File name) = string_bytes name

-- what is told of a stream of this name, by the error of its last call that failed
abbrev pub TellsStream : List ℕ → Option Error → Told → Type 0
TellsStream name None told = told ≡ Alone
TellsStream name (Some error) told = TellsError name error told

-- What is told beside the line of a fault: of a read or a write that failed its reason, of a text that is refused what
-- `Refused` says, and else nothing.
abbrev pub TellsFault : Asked → Option Error → Option Error → (Told → Type 0) → PoolFault → Told → Type 0
TellsFault asked read written Refused (Print ReadFailed) told = TellsStream (name_of (origin_of asked)) read told
TellsFault asked read written Refused (Print WriteFailed) told = TellsStream (codes "standard output") written told
TellsFault asked read written Refused (Print NotJson) told = Refused told
TellsFault asked read written Refused (Print NotAPlan) told = Refused told
TellsFault asked read written Refused (Print OutOfRange) told = Refused told
TellsFault asked read written Refused (Print TooDeep) told = Refused told
TellsFault asked read written Refused (Print TooMany) told = Refused told
TellsFault asked read written Refused (Print TooLong) told = told ≡ Alone
TellsFault asked read written Refused (Print NoMemory) told = told ≡ Alone
TellsFault asked read written Refused NotStarted told = told ≡ Alone
TellsFault asked read written Refused Unfinished told = told ≡ Alone
TellsFault asked read written Refused Mixed told = told ≡ Alone

-- what is told of the input, by the errors of the last read and the last write that failed
abbrev pub Tells : Asked → Option (List ℕ) → Option (List ℕ) → Option Error → Option Error → PoolFault → Told →
    Type 0
Tells asked left left' read written fault told =
    TellsFault asked read written (λ t. IsInput left left' (λ bytes. TellsText asked bytes t)) fault told
