-- What is printed of a text that is there as a whole is printed of the input that it is.
use Rattle.std.specs.Prelude.{◌⊎◌}
use Rattle.std.proofs.Common.{◌≡◌, inl, inr, Bool, true, false, ℕ, ◌+◌, ◌≤◌, List, ◌++◌, length, Option, Some, None}
use Rattle.std.proofs.Common.{Result, Ok, Err, refl, sym, ap, subst, ◌∙◌, arith, length-append}
use Rattle.std.proofs.lemmas.List.{append-nil}
use Rattle.std.specs.Io.KnownBytes.{Appends, Consumes, IsAtEnd, Keeps}
use Rattle.sched_plan.specs.Schedule.{Schedule}
use Rattle.sched_plan.specs.declared.plans.PlanFault.TheVariants as refused
use Rattle.sched_plan_json.specs.declared.faults.ReadFault.TheVariants as reading
use Rattle.sched_task_law.specs.Past.{Past}
use Rattle.sched_pool_json.specs.Job.{Job}
use Rattle.sched_cli_check.specs.Checking.{PrintsCheck}
use Rattle.sched_plan_course.specs.Course.{Course}
use Rattle.sched_cli_plan.specs.PlanText.{plan_text}
use Rattle.sched_cli_plan.specs.Printing.{Prints, IsInput, SpellsPlan, SpellsFault, SpellsNothing}
use Rattle.sched_cli_plan.specs.Whole.{IsWholeInput, StopsReading, WritesFront, count_of_reads, count_of_writes}
use Rattle.sched_cli_plan.specs.declared.faults.PrintFault.{PrintFault}
use Rattle.sched_cli_plan.specs.declared.faults.PrintFault.TheVariants.{ReadFailed, TooLong, NotJson, NotAPlan}
use Rattle.sched_cli_plan.specs.declared.faults.PrintFault.TheVariants.{OutOfRange}
use Rattle.sched_cli_plan.specs.declared.faults.PrintFault.TheVariants.{TooDeep, TooMany, NoMemory, WriteFailed}
use Rattle.sched_cli_pool.specs.JobsPrinting.{PrintsJobs, SpellsJobs, SpellsNoJobs, WritesPool}
use Rattle.sched_cli_pool.specs.JobsPrinting.{count_of_pool_reads, count_of_pool_writes}
use Rattle.sched_cli_pool.specs.declared.faults.PoolFault.{PoolFault}
use Rattle.sched_cli_pool.specs.declared.faults.PoolFault.TheVariants.{Print, NotStarted, Unfinished, Mixed}
use Rattle.sched_cli_storm.specs.StormPrinting.{PrintsStorm}
use Rattle.sched_cli.specs.Answering.{ForInput, OfPrint, AnswersStorm, as_answer}

-- what is read of a text up to its end is the text
whole_is : (text read : List ℕ) (m : Option (List ℕ)) → Consumes (Some text) m read → IsAtEnd m → read ≡ text
whole_is text read None gave end = absurd gave
whole_is text read (Some left) gave end = sym (gave ∙ ap (λ l. read ++ l) end ∙ append-nil read)

-- a text that is not too long is not found to be so
not_too_long : (text : List ℕ) (m : Option (List ℕ)) → length text ≤ 1048576 → StopsReading TooLong (Some text) m → ⊥
not_too_long text None fits stop = stop.1
not_too_long text (Some left) fits stop =
    let all : length text ≡ length stop.0 + length left = ap length stop.1 ∙ length-append stop.0 left in
    let many : length stop.0 ≡ 1048577 = stop.2 in
    omega arith

no_failed_read : 0 ≡ count_of_reads {A = Unit {0}} (Err ReadFailed) 0 → ⊥
no_failed_read same = let bad : 0 ≡ 1 = same in omega arith

module _ (text given : List ℕ) (m : Option (List ℕ)) (same : given ≡ text) where
  -- what is true of the text that was read is true of the input
  input_again : (P : List ℕ → Type 0) → IsInput (Some given) m P → ForInput text (λ l l'. IsInput l l' P)
  input_again P again l l' whole =
      (text, whole, subst P (whole_is given again.0 m again.1.reads again.1.ends ∙ same) again.2)

  or_again : (K : Type 0) (P : List ℕ → Type 0) → K ⊎ IsInput (Some given) m P
      → ForInput text (λ l l'. K ⊎ IsInput l l' P)
  or_again K P (inl k) l l' whole = inl k
  or_again K P (inr again) l l' whole = inr (input_again P again l l' whole)

  kept_again : (K : Type 0) (P : List ℕ → Type 0) → IsInput (Some given) m P × K
      → ForInput text (λ l l'. IsInput l l' P × K)
  kept_again K P again l l' whole = (input_again P again.0 l l' whole, again.1)

  long_again : (l l' : Option (List ℕ)) → IsWholeInput l l' text → StopsReading TooLong (Some given) m → ⊥
  long_again l l' whole stop =
      let fits : length given ≤ 1048576 = rw same whole.fits in
      not_too_long given m fits stop

  module _ (t t' : Option (List ℕ)) where
    pub plan_again : (o : Course) (result : Result (Unit {0}) PrintFault) → Prints o (Some given) m t t' result →
        0 ≡ count_of_reads result 0 → ForInput text (λ l l'. OfPrint (Prints o l l' t t') (as_answer result))
    plan_again o (Ok done) again reads =
        input_again (λ bytes. (s : Schedule) × SpellsPlan bytes s × Appends t t' (plan_text s o)) again
    plan_again o (Err ReadFailed) again reads = absurd (no_failed_read reads)
    plan_again o (Err TooLong) again reads = λ l l' whole. absurd (long_again l l' whole again.0)
    plan_again o (Err NotJson) again reads = kept_again _ SpellsNothing again
    plan_again o (Err NotAPlan) again reads = kept_again _ (λ bytes. SpellsFault bytes reading.NotAPlan) again
    plan_again o (Err OutOfRange) again reads =
        kept_again _ (λ bytes. SpellsFault bytes (reading.Plan refused.OutOfRange)) again
    plan_again o (Err TooDeep) again reads =
        kept_again _ (λ bytes. SpellsFault bytes (reading.Plan refused.TooDeep)) again
    plan_again o (Err TooMany) again reads =
        kept_again _ (λ bytes. SpellsFault bytes (reading.Plan refused.TooMany)) again
    plan_again o (Err NoMemory) again reads =
        or_again _ (λ bytes. (s : Schedule) × SpellsPlan bytes s × WritesFront t t' (plan_text s o)) again
    plan_again o (Err WriteFailed) again reads =
        input_again (λ bytes. (s : Schedule) × SpellsPlan bytes s × WritesFront t t' (plan_text s o)) again

    pub check_again : (result : Result (Unit {0}) PrintFault) → PrintsCheck (Some given) m t t' result →
        0 ≡ count_of_reads result 0 → ForInput text (λ l l'. OfPrint (PrintsCheck l l' t t') (as_answer result))
    check_again (Ok done) again reads = input_again _ again
    check_again (Err ReadFailed) again reads = absurd (no_failed_read reads)
    check_again (Err TooLong) again reads = λ l l' whole. absurd (long_again l l' whole again.0)
    check_again (Err NotJson) again reads = input_again _ again
    check_again (Err NotAPlan) again reads = input_again _ again
    check_again (Err OutOfRange) again reads = input_again _ again
    check_again (Err TooDeep) again reads = input_again _ again
    check_again (Err TooMany) again reads = input_again _ again
    check_again (Err NoMemory) again reads = λ l l' whole. again
    check_again (Err WriteFailed) again reads = input_again _ again

    -- what is printed of jobs that are run so
    module _ (Runs : List Job → List Past → List ℕ → Type 0) (may : Type 0) where
      abbrev Ran : Result (Unit {0}) PoolFault → List ℕ → Type 0
      Ran result bytes = (jobs : List Job) × SpellsJobs bytes jobs ×
          ((ends : List Past) × (lines : List ℕ) × Runs jobs ends lines × WritesPool t t' ends lines result)

      abbrev Unprinted : List ℕ → Type 0
      Unprinted bytes = (jobs : List Job) × SpellsJobs bytes jobs × Keeps t t'

      pub jobs_again : (result : Result (Unit {0}) PoolFault) → PrintsJobs Runs may (Some given) m t t' result →
          0 ≡ count_of_pool_reads result 0 → ForInput text (λ l l'. PrintsJobs Runs may l l' t t' result)
      jobs_again (Ok done) again reads = input_again (Ran (Ok done)) again
      jobs_again (Err Unfinished) again reads = input_again (Ran (Err Unfinished)) again
      jobs_again (Err (Print WriteFailed)) again reads = input_again (Ran (Err (Print WriteFailed))) again
      jobs_again (Err (Print NoMemory)) again reads = or_again _ (Ran (Err (Print NoMemory))) again
      jobs_again (Err NotStarted) again reads = λ l l' whole. (again.0, input_again Unprinted again.1 l l' whole)
      jobs_again (Err Mixed) again reads = input_again Unprinted again
      jobs_again (Err (Print ReadFailed)) again reads = absurd (no_failed_read reads)
      jobs_again (Err (Print TooLong)) again reads = λ l l' whole. absurd (long_again l l' whole again.0)
      jobs_again (Err (Print NotJson)) again reads = kept_again _ SpellsNothing again
      jobs_again (Err (Print NotAPlan)) again reads = kept_again _ (λ bytes. SpellsNoJobs bytes reading.NotAPlan) again
      jobs_again (Err (Print OutOfRange)) again reads =
          kept_again _ (λ bytes. SpellsNoJobs bytes (reading.Plan refused.OutOfRange)) again
      jobs_again (Err (Print TooDeep)) again reads =
          kept_again _ (λ bytes. SpellsNoJobs bytes (reading.Plan refused.TooDeep)) again
      jobs_again (Err (Print TooMany)) again reads =
          kept_again _ (λ bytes. SpellsNoJobs bytes (reading.Plan refused.TooMany)) again

-- a printing and what is answered of it count the same
pub reads_as_answer : (result : Result (Unit {0}) PrintFault) (n : ℕ)
    → count_of_reads result n ≡ count_of_pool_reads (as_answer result) n
reads_as_answer (Ok done) n = refl
reads_as_answer (Err fault) n = refl

pub writes_as_answer : (result : Result (Unit {0}) PrintFault) (n : ℕ)
    → count_of_writes result n ≡ count_of_pool_writes (as_answer result) n
writes_as_answer (Ok done) n = refl
writes_as_answer (Err fault) n = refl

-- how a storm that was printed is answered
abbrev pub storm_answer : Result Bool PrintFault → Result (Unit {0}) PoolFault
storm_answer (Ok true) = Err Unfinished
storm_answer (Ok false) = Ok tt
storm_answer (Err fault) = Err (Print fault)

pub storm_again : (text : List ℕ) (t t' : Option (List ℕ)) (result : Result Bool PrintFault)
    → PrintsStorm text t t' result →
    ForInput text (λ l l'. AnswersStorm l l' t t' (storm_answer result))
storm_again text t t' (Ok true) prints = λ l l' whole. (text, whole, prints)
storm_again text t t' (Ok false) prints = λ l l' whole. (text, whole, prints)
storm_again text t t' (Err ReadFailed) prints = absurd prints.0
storm_again text t t' (Err TooLong) prints = absurd prints.0
storm_again text t t' (Err NotJson) prints = λ l l' whole. (text, whole, prints)
storm_again text t t' (Err NotAPlan) prints = λ l l' whole. (text, whole, prints)
storm_again text t t' (Err OutOfRange) prints = λ l l' whole. (text, whole, prints)
storm_again text t t' (Err TooDeep) prints = λ l l' whole. (text, whole, prints)
storm_again text t t' (Err TooMany) prints = λ l l' whole. (text, whole, prints)
storm_again text t t' (Err NoMemory) prints = λ l l' whole. prints.1
storm_again text t t' (Err WriteFailed) prints = λ l l' whole. (text, whole, prints)
