-- What checking does to the bytes left and the bytes taken, whatever bytes come.
use Rattle.std.specs.Prelude.{◌≡◌, ℕ, ◌⊎◌, List, Option, Result, Err}
use Rattle.std.specs.Io.KnownBytes.{Appends, Keeps}
use Rattle.sched_cli_plan.specs.Whole.{StopsReading, WritesFront}
use Rattle.sched_cli_plan.specs.Printing.{IsInput}
use Rattle.sched_cli_plan.specs.declared.faults.PrintFault.{PrintFault}
use Rattle.sched_cli_plan.specs.declared.faults.PrintFault.TheVariants.{ReadFailed, TooLong, NoMemory, WriteFailed}
use Rattle.sched_cli_check.specs.Reporting.{IsReport, text_of, answer_of}
use Rattle.sched_cli_check.specs.declared.reports.Report.{Report}

-- the text was written and this is answered, or a write failed after a front of it
abbrev pub PutsText : List ℕ → Result (Unit {0}) PrintFault → Option (List ℕ) → Option (List ℕ) →
    Result (Unit {0}) PrintFault → Type 0
PutsText text answer taken taken' result =
    ((result ≡ answer) × Appends taken taken' text) ⊎ ((result ≡ Err WriteFailed) × WritesFront taken taken' text)

-- the whole input was read, this may be told of it, and P is true of what is told
abbrev pub IsToldInput : Option (List ℕ) → Option (List ℕ) → (Report → Type 0) → Type 0
IsToldInput left left' P = IsInput left left' (λ bytes. (r : Report) × IsReport bytes r × P r)

-- Checking a text: what is told of it is written, and answered: Ok where it spells a plan or jobs, else the fault of
-- reading it, or that it is no JSON. Where reading failed or the input is too long nothing was written, and where a
-- write failed a front of what is told.
abbrev pub PrintsCheck : Option (List ℕ) → Option (List ℕ) → Option (List ℕ) → Option (List ℕ) →
    Result (Unit {0}) PrintFault → Type 0
PrintsCheck left left' taken taken' (Err ReadFailed) = StopsReading ReadFailed left left' × Keeps taken taken'
PrintsCheck left left' taken taken' (Err TooLong) = StopsReading TooLong left left' × Keeps taken taken'
PrintsCheck left left' taken taken' (Err NoMemory) = (text : List ℕ) × Appends taken taken' text
PrintsCheck left left' taken taken' (Err WriteFailed) =
    IsToldInput left left' (λ r. WritesFront taken taken' (text_of r))
PrintsCheck left left' taken taken' answer =
    IsToldInput left left' (λ r. (answer_of r ≡ answer) × Appends taken taken' (text_of r))
