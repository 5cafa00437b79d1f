-- What reading a whole input and writing a whole text do to the bytes left and the bytes taken.
use Rattle.std.specs.Prelude.{◌≡◌, ℕ, ◌≤◌, List, ◌++◌, length, Option, Result, Err}
use Rattle.std.specs.Io.KnownBytes.{Consumes, Appends, IsAtEnd}
use Rattle.sched_cli_plan.specs.Failures.{next_count}
use Rattle.sched_cli_plan.specs.declared.faults.PrintFault.{PrintFault}
use Rattle.sched_cli_plan.specs.declared.faults.PrintFault.TheVariants.{ReadFailed, TooLong, NoMemory, WriteFailed}

-- the bytes were read, none is left, and they are no more than an input may have
pub record IsWholeInput (left left' : Option (List ℕ)) (bytes : List ℕ) : Type 0 where
  pub reads : Consumes left left' bytes
  pub ends : IsAtEnd left'
  pub fits : length bytes ≤ 1048576

-- some bytes were read, as many as `IsCount` says
abbrev pub ReadsSome : Option (List ℕ) → Option (List ℕ) → (ℕ → Type 0) → Type 0
ReadsSome left left' IsCount = (bytes : List ℕ) × Consumes left left' bytes × IsCount (length bytes)

-- reading stopped at a fault: at `TooLong` just past the longest input, and never further
abbrev pub StopsReading : PrintFault → Option (List ℕ) → Option (List ℕ) → Type 0
StopsReading ReadFailed left left' = ReadsSome left left' (λ n. n ≤ 1048576)
StopsReading TooLong left left' = ReadsSome left left' (λ n. n ≡ 1048577)
StopsReading NoMemory left left' = ReadsSome left left' (λ n. n ≤ 1048577)
StopsReading fault left left' = ⊥

-- the text begins with the front
abbrev pub IsFront : List ℕ → List ℕ → Type 0
IsFront front text = (rest : List ℕ) × (text ≡ front ++ rest)

-- a front of the text was written
abbrev pub WritesFront : Option (List ℕ) → Option (List ℕ) → List ℕ → Type 0
WritesFront taken taken' text = (front : List ℕ) × IsFront front text × Appends taken taken' front

-- all of the text was written but what is still pending
abbrev pub WritesAllBut : Option (List ℕ) → Option (List ℕ) → List ℕ → List ℕ → Type 0
WritesAllBut taken taken' text pending = (front : List ℕ) × (text ≡ front ++ pending) × Appends taken taken' front

-- writing stopped at a fault: after a front of the text
abbrev pub StopsWriting : PrintFault → Option (List ℕ) → Option (List ℕ) → List ℕ → Type 0
StopsWriting WriteFailed taken taken' text = WritesFront taken taken' text
StopsWriting fault taken taken' text = ⊥

-- the count of failed reads after a call: one more exactly where it answers `ReadFailed`
abbrev pub count_of_reads : {A : Type 0} → Result A PrintFault → ℕ → ℕ
count_of_reads (Err ReadFailed) count = next_count count
count_of_reads answer count = count

-- the count of failed writes after a call: one more exactly where it answers `WriteFailed`
abbrev pub count_of_writes : {A : Type 0} → Result A PrintFault → ℕ → ℕ
count_of_writes (Err WriteFailed) count = next_count count
count_of_writes answer count = count
