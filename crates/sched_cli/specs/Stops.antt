-- What the program tells where it stopped.
use Rattle.std.specs.Prelude.{◌≡◌, ◌≢◌, ℕ, Bool, true, false, List, [], ◌++◌, codes, Result, Ok, Err, IfOk}
use Rattle.std.specs.Prelude.{string_bytes}
use Rattle.std.specs.IoError.{error_kind}
use Rattle.std.specs.declared.io.Error.{Error}
use Rattle.std.specs.declared.io.ErrorKind.TheVariants.{BrokenPipe, OutOfMemory}
use Rattle.sched_time.specs.declared.faults.NoMemory.{NoMemory}
use Rattle.sched_cli_plan.specs.declared.faults.PrintFault.TheVariants as print
use Rattle.sched_cli_plan.specs.PrintStatus.{print_line, print_status}
use Rattle.sched_cli_pool.specs.PoolStatus.{pool_line, pool_status}
use Rattle.sched_cli_pool.specs.declared.faults.PoolFault.{PoolFault}
use Rattle.sched_cli_pool.specs.declared.faults.PoolFault.TheVariants.{Print}
use Rattle.sched_cli.specs.declared.stops.Told.{Told}
use Rattle.sched_cli.specs.declared.stops.Told.TheVariants.{Quiet, Alone, More}
use Rattle.sched_cli.specs.declared.stops.Stop.{Stop}

-- the lines that are told of a fault, without the last line feed; where there was no memory for them that is told
abbrev pub told_lines : PoolFault → Result Told NoMemory → List ℕ
told_lines fault (Ok Quiet) = []
told_lines fault (Ok Alone) = pool_line fault
told_lines fault (Ok (More more)) = pool_line fault ++ codes "\n" ++ string_bytes more
told_lines fault (Err refused) = print_line print.NoMemory

abbrev pub stop_text : Stop → List ℕ
stop_text stop = told_lines stop.fault stop.told

-- the status that the program exits with
abbrev pub told_status : PoolFault → Result Told NoMemory → ℕ
told_status fault (Ok told) = pool_status fault
told_status fault (Err refused) = print_status print.NoMemory

abbrev pub stop_status : Stop → ℕ
stop_status stop = told_status stop.fault stop.told

abbrev pub is_quiet : Result Told NoMemory → Bool
is_quiet (Ok Quiet) = true
is_quiet (Ok Alone) = false
is_quiet (Ok (More more)) = false
is_quiet (Err refused) = false

-- `NAME: REASON`
abbrev pub IsNamed : List ℕ → Told → Type 0
IsNamed name Quiet = ⊥
IsNamed name Alone = ⊥
IsNamed name (More line) = (reason : List ℕ) × (string_bytes line ≡ name ++ codes ": " ++ reason)

-- of a pipe that nobody reads nothing is told, and of another stream its name and the system's reason
pub record TellsError (name : List ℕ) (error : Error) (told : Told) : Type 0 where
  pub unread : error_kind error ≡ BrokenPipe → told ≡ Quiet
  pub other : error_kind error ≢ BrokenPipe → IsNamed name told

-- what is told of a file that was not opened
pub record IsUnopened (name : List ℕ) (error : Error) (stop : Stop) : Type 0 where
  pub memory : error_kind error ≡ OutOfMemory → (stop.fault ≡ Print print.NoMemory) × (stop.told ≡ Ok Alone)
  pub other : error_kind error ≢ OutOfMemory →
      (stop.fault ≡ Print print.ReadFailed) × IfOk stop.told (TellsError name error)

-- what is told of a text that was not written
pub record IsUnwritten (error : Error) (stop : Stop) : Type 0 where
  pub fault : stop.fault ≡ Print print.WriteFailed
  pub told : IfOk stop.told (TellsError (codes "standard output") error)
