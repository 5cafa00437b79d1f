-- What is printed of a storm. Its numbers are those of the reports that were played.
use Rattle.std.specs.Prelude.{ℕ, Bool, List, Option, Result, Ok, Err}
use Rattle.std.specs.Io.KnownBytes.{Appends, Keeps}
use Rattle.sched_plan.specs.Schedule.{Schedule}
use Rattle.sched_cli_plan.specs.Printing.{SpellsPlan}
use Rattle.sched_cli_plan.specs.Whole.{WritesFront}
use Rattle.sched_cli_plan.specs.declared.faults.PrintFault.{PrintFault}
use Rattle.sched_cli_plan.specs.declared.faults.PrintFault.TheVariants.{ReadFailed, TooLong}
use Rattle.sched_cli_plan.specs.declared.faults.PrintFault.TheVariants.{WriteFailed}

-- the bytes spell a plan
abbrev pub SpellsSome : List ℕ → Type 0
SpellsSome bytes = (s : Schedule) × SpellsPlan bytes s

-- a text is refused for what it spells, or for want of memory
abbrev pub IsRefusal : PrintFault → Type 0
IsRefusal ReadFailed = ⊥
IsRefusal TooLong = ⊥
IsRefusal WriteFailed = ⊥
IsRefusal fault = Unit {0}

-- A plan was read, and a text was written, or a front of it; otherwise nothing was written.
abbrev pub PrintsStorm : List ℕ → Option (List ℕ) → Option (List ℕ) → Result Bool PrintFault → Type 0
PrintsStorm bytes taken taken' (Ok is_cut) = SpellsSome bytes × ((text : List ℕ) × Appends taken taken' text)
PrintsStorm bytes taken taken' (Err WriteFailed) = SpellsSome bytes × ((text : List ℕ) × WritesFront taken taken' text)
PrintsStorm bytes taken taken' (Err fault) = IsRefusal fault × Keeps taken taken'
