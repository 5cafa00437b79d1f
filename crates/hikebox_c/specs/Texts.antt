-- What is told of texts, and of the fault of a policy's text.
use Rattle.std.specs.Prelude.{◌≡◌, ◌⊎◌, ℕ, ◌<◌, ◌≤◌, List, [], ◌++◌, length, drop, Option, Some, None, Result, Ok, Err}
use Rattle.std.specs.Prelude.{String, string_bytes}
use Rattle.std.specs.Global.{Global}
use Rattle.sched_plan_hint.specs.Faults.{FindsFault, told_text}
use Rattle.sched_plan_hint.specs.declared.faults.ToldFault.{ToldFault}
use Rattle.sched_handle.specs.Status.{code_of}
use Rattle.sched_handle.specs.declared.status.Status.{Status}
use Rattle.sched_handle.specs.declared.status.Status.TheVariants.{NoMemory, NoRoom}

-- these are written in the first places of a room, and what stood after them stays
abbrev pub IsWritten : {A : Type 0} → List A → List A → List A → Type 0
IsWritten items old new = new ≡ items ++ drop (length items) old

-- these are written where there is room for them
abbrev pub Writes : {A : Type 0} → List A → ℕ → List A → List A → Type 0
Writes items code old new =
    ((code ≡ 0) × (length items ≤ length old) × IsWritten items old new)
    ⊎ ((code ≡ code_of NoRoom) × (length old < length items) × (new ≡ old))

-- a text is written where there is room for it, and its length in any case; a reason is told by its number
abbrev pub TellsText : ℕ → List ℕ → List ℕ → ℕ → ℕ → Result (String Global) Status → Type 0
TellsText code old new had has (Ok text) =
    (has ≡ length (string_bytes text)) × Writes (string_bytes text) code old new
TellsText code old new had has (Err s) = (code ≡ code_of s) × (new ≡ old) × (has ≡ had)

-- the text of a fault, and an empty one of none
abbrev pub fault_text : Option ToldFault → List ℕ
fault_text (Some fault) = told_text fault
fault_text None = []

-- the text of the fault that is found in these bytes
abbrev pub SaysFault : List ℕ → Result (String Global) Status → Type 0
SaysFault bytes (Ok text) = (found : Option ToldFault) × FindsFault bytes found × (string_bytes text ≡ fault_text found)
SaysFault bytes (Err s) = s ≡ NoMemory
