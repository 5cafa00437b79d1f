-- What is answered and told follows from what was read and printed.
use Rattle.std.proofs.Common.{◌≡◌, inl, ℕ, List, [], Option, Result, Ok, Err, IfOk, refl, arith}
use Rattle.std.proofs.KnownBytes.{Keeps-refl, Appends-nil}
use Rattle.std.specs.declared.io.Error.{Error}
use Rattle.sched_time.specs.declared.faults.NoMemory.{NoMemory as Refused}
use Rattle.sched_cli_plan.specs.Printing.{IsInput}
use Rattle.sched_cli_plan.specs.Whole.{IsWholeInput, StopsReading, count_of_writes}
use Rattle.sched_cli_plan.specs.declared.faults.PrintFault.{PrintFault}
use Rattle.sched_cli_plan.specs.declared.faults.PrintFault.TheVariants.{ReadFailed, TooLong, NotJson, NotAPlan}
use Rattle.sched_cli_plan.specs.declared.faults.PrintFault.TheVariants.{OutOfRange}
use Rattle.sched_cli_plan.specs.declared.faults.PrintFault.TheVariants.{TooDeep, TooMany, NoMemory, WriteFailed}
use Rattle.sched_cli_pool.specs.JobsPrinting.{count_of_pool_reads}
use Rattle.sched_cli_pool.specs.declared.faults.PoolFault.{PoolFault}
use Rattle.sched_cli_pool.specs.declared.faults.PoolFault.TheVariants.{Print, NotStarted, Unfinished, Mixed}
use Rattle.sched_cli_words.specs.declared.options.Asked.{Asked}
use Rattle.sched_cli_words.specs.declared.options.Asked.TheVariants as asked
use Rattle.sched_cli.specs.Answering.{ForInput, Answers, TellsFault, TellsText, Tells}
use Rattle.sched_cli.specs.declared.stops.Told.{Told}

-- a reading that stopped counts no write
pub writes_unread : (l m : Option (List ℕ)) (fault : PrintFault) (n : ℕ) → StopsReading fault l m
    → n ≡ count_of_writes {A = Unit {0}} (Err fault) n
writes_unread l m ReadFailed n stop = refl
writes_unread l m TooLong n stop = refl
writes_unread l m NoMemory n stop = refl
writes_unread l m NotJson n stop = absurd stop
writes_unread l m NotAPlan n stop = absurd stop
writes_unread l m OutOfRange n stop = absurd stop
writes_unread l m TooDeep n stop = absurd stop
writes_unread l m TooMany n stop = absurd stop
writes_unread l m WriteFailed n stop = absurd stop

-- where reading stopped nothing was written
pub answers_unread : (a : Asked) (l m t : Option (List ℕ)) (fault : PrintFault) → StopsReading fault l m
    → Answers a l m t t (Err (Print fault))
answers_unread (asked.Plan options origin) l m t ReadFailed stop = (stop, Keeps-refl t)
answers_unread (asked.Course course origin) l m t ReadFailed stop = (stop, Keeps-refl t)
answers_unread (asked.Pool options origin) l m t ReadFailed stop = (stop, Keeps-refl t)
answers_unread (asked.Quota options origin) l m t ReadFailed stop = (stop, Keeps-refl t)
answers_unread (asked.Storm options origin) l m t ReadFailed stop = (stop, Keeps-refl t)
answers_unread (asked.Check origin) l m t ReadFailed stop = (stop, Keeps-refl t)
answers_unread (asked.Plan options origin) l m t TooLong stop = (stop, Keeps-refl t)
answers_unread (asked.Course course origin) l m t TooLong stop = (stop, Keeps-refl t)
answers_unread (asked.Pool options origin) l m t TooLong stop = (stop, Keeps-refl t)
answers_unread (asked.Quota options origin) l m t TooLong stop = (stop, Keeps-refl t)
answers_unread (asked.Storm options origin) l m t TooLong stop = (stop, Keeps-refl t)
answers_unread (asked.Check origin) l m t TooLong stop = (stop, Keeps-refl t)
answers_unread (asked.Plan options origin) l m t NoMemory stop = inl (Keeps-refl t)
answers_unread (asked.Course course origin) l m t NoMemory stop = inl (Keeps-refl t)
answers_unread (asked.Pool options origin) l m t NoMemory stop = inl (Keeps-refl t)
answers_unread (asked.Quota options origin) l m t NoMemory stop = inl (Keeps-refl t)
answers_unread (asked.Storm options origin) l m t NoMemory stop = Keeps-refl t
answers_unread (asked.Check origin) l m t NoMemory stop = ([], Appends-nil t)
answers_unread a l m t NotJson stop = absurd stop
answers_unread a l m t NotAPlan stop = absurd stop
answers_unread a l m t OutOfRange stop = absurd stop
answers_unread a l m t TooDeep stop = absurd stop
answers_unread a l m t TooMany stop = absurd stop
answers_unread a l m t WriteFailed stop = absurd stop

-- a text that was printed without a failed read counts none
pub reads_printed : (result : Result (Unit {0}) PoolFault) (n : ℕ) → 0 ≡ count_of_pool_reads result 0
    → n ≡ count_of_pool_reads result n
reads_printed (Ok done) n kept = refl
reads_printed (Err (Print ReadFailed)) n kept = let bad : ◌≡◌ {A = ℕ} 0 1 = kept in absurd (omega arith)
reads_printed (Err (Print TooLong)) n kept = refl
reads_printed (Err (Print NotJson)) n kept = refl
reads_printed (Err (Print NotAPlan)) n kept = refl
reads_printed (Err (Print OutOfRange)) n kept = refl
reads_printed (Err (Print TooDeep)) n kept = refl
reads_printed (Err (Print TooMany)) n kept = refl
reads_printed (Err (Print NoMemory)) n kept = refl
reads_printed (Err (Print WriteFailed)) n kept = refl
reads_printed (Err NotStarted) n kept = refl
reads_printed (Err Unfinished) n kept = refl
reads_printed (Err Mixed) n kept = refl

pub answers_printed : (a : Asked) (text : List ℕ) (l m t t' : Option (List ℕ)) (result : Result (Unit {0}) PoolFault) →
    ForInput text (λ x y. Answers a x y t t' result) → IsWholeInput l m text → Answers a l m t t' result
answers_printed a text l m t t' result printed whole = printed l m whole

module _ (a : Asked) (read written : Option Error) where
  -- what is told where reading stopped speaks of no text
  fault_unread : (R R' : Told → Type 0) (l m : Option (List ℕ)) (fault : PrintFault) (told : Told)
      → StopsReading fault l m →
      TellsFault a read written R (Print fault) told → TellsFault a read written R' (Print fault) told
  fault_unread R R' l m ReadFailed told stop tells = tells
  fault_unread R R' l m TooLong told stop tells = tells
  fault_unread R R' l m NoMemory told stop tells = tells
  fault_unread R R' l m NotJson told stop tells = absurd stop
  fault_unread R R' l m NotAPlan told stop tells = absurd stop
  fault_unread R R' l m OutOfRange told stop tells = absurd stop
  fault_unread R R' l m TooDeep told stop tells = absurd stop
  fault_unread R R' l m TooMany told stop tells = absurd stop
  fault_unread R R' l m WriteFailed told stop tells = absurd stop

  pub told_unread : (text : List ℕ) (l m : Option (List ℕ)) (fault : PrintFault) (told : Result Told Refused)
      → StopsReading fault l m →
      IfOk told (TellsFault a read written (TellsText a text) (Print fault))
      → IfOk told (Tells a l m read written (Print fault))
  told_unread text l m fault (Ok told) stop tells =
      fault_unread (TellsText a text) (λ t. IsInput l m (λ bytes. TellsText a bytes t)) l m fault told stop tells
  told_unread text l m fault (Err refused) stop tells = tells

  -- what is told of the text is told of the input
  fault_printed : (R R' : Told → Type 0) (fault : PoolFault) (told : Told) → ((t : Told) → R t → R' t) →
      TellsFault a read written R fault told → TellsFault a read written R' fault told
  fault_printed R R' (Print ReadFailed) told move tells = tells
  fault_printed R R' (Print TooLong) told move tells = tells
  fault_printed R R' (Print NotJson) told move tells = move told tells
  fault_printed R R' (Print NotAPlan) told move tells = move told tells
  fault_printed R R' (Print OutOfRange) told move tells = move told tells
  fault_printed R R' (Print TooDeep) told move tells = move told tells
  fault_printed R R' (Print TooMany) told move tells = move told tells
  fault_printed R R' (Print NoMemory) told move tells = tells
  fault_printed R R' (Print WriteFailed) told move tells = tells
  fault_printed R R' NotStarted told move tells = tells
  fault_printed R R' Unfinished told move tells = tells
  fault_printed R R' Mixed told move tells = tells

  pub told_printed : (text : List ℕ) (l m : Option (List ℕ)) (fault : PoolFault) (told : Result Told Refused)
      → IsWholeInput l m text →
      IfOk told (TellsFault a read written (TellsText a text) fault) → IfOk told (Tells a l m read written fault)
  told_printed text l m fault (Ok told) whole tells = fault_printed (TellsText a text)
      (λ t. IsInput l m (λ bytes. TellsText a bytes t)) fault told (λ t is. (text, whole, is)) tells
  told_printed text l m fault (Err refused) whole tells = tells

pub ruleset of_answers = (answers_unread, writes_unread, told_unread, answers_printed, told_printed, reads_printed)
