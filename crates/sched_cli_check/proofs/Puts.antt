-- What comes of writing what is told.
use Rattle.std.proofs.Common.{◌≡◌, ◌≢◌, inl, inr, ℕ, List, Option, Result, Ok, Err, MatchResult, refl, sym, ap, ◌∙◌}
use Rattle.std.proofs.Common.{subst}
use Rattle.std.specs.Io.KnownBytes.{Appends}
use Rattle.sched_cli_plan.specs.Whole.{IsWholeInput, StopsWriting, count_of_reads, count_of_writes}
use Rattle.sched_cli_plan.specs.Refusal.{refusal_of}
use Rattle.sched_cli_plan.specs.declared.faults.PrintFault.{PrintFault}
use Rattle.sched_cli_plan.specs.declared.faults.PrintFault.TheVariants.{ReadFailed, TooLong, NotJson, NotAPlan}
use Rattle.sched_cli_plan.specs.declared.faults.PrintFault.TheVariants.{OutOfRange, TooDeep, TooMany, NoMemory}
use Rattle.sched_cli_plan.specs.declared.faults.PrintFault.TheVariants.{WriteFailed}
use Rattle.sched_plan.specs.declared.plans.PlanFault.TheVariants as builder
use Rattle.sched_plan_json.specs.declared.faults.ReadFault.{ReadFault}
use Rattle.sched_plan_json.specs.declared.faults.ReadFault.TheVariants as reading
use Rattle.sched_cli_check.specs.Reporting.{IsReport, text_of, answer_of}
use Rattle.sched_cli_check.specs.Checking.{PutsText, PrintsCheck}
use Rattle.sched_cli_check.specs.declared.reports.Report.{Report}
use Rattle.sched_cli_check.specs.declared.reports.Report.TheVariants as told

-- a write that stops is one that failed
pub put_stopped : (t t' : Option (List ℕ)) (text : List ℕ) (answer : Result (Unit {0}) PrintFault) (fault : PrintFault)
    → StopsWriting fault t t' text →
    PutsText text answer t t' (Err fault)
put_stopped t t' text answer WriteFailed stop = inr (refl, stop)
put_stopped t t' text answer ReadFailed stop = absurd stop
put_stopped t t' text answer TooLong stop = absurd stop
put_stopped t t' text answer NotJson stop = absurd stop
put_stopped t t' text answer NotAPlan stop = absurd stop
put_stopped t t' text answer OutOfRange stop = absurd stop
put_stopped t t' text answer TooDeep stop = absurd stop
put_stopped t t' text answer TooMany stop = absurd stop
put_stopped t t' text answer NoMemory stop = absurd stop

-- a text is written, and Ok is answered
pub put_read : (t t' : Option (List ℕ)) (text : List ℕ) (result : Result (Unit {0}) PrintFault) →
    MatchResult result (λ _. Appends t t' text) (λ fault. StopsWriting fault t t' text)
    → PutsText text (Ok tt) t t' result
put_read t t' text (Ok done) put = inl (refl, put)
put_read t t' text (Err fault) put = put_stopped t t' text (Ok tt) fault put

-- a fault other than a failed write is counted as none
pub not_counted : (fault : PrintFault) (n : ℕ) → fault ≢ WriteFailed → count_of_writes {A = Unit {0}} (Err fault) n ≡ n
not_counted WriteFailed n other = absurd (other refl)
not_counted ReadFailed n other = refl
not_counted TooLong n other = refl
not_counted NotJson n other = refl
not_counted NotAPlan n other = refl
not_counted OutOfRange n other = refl
not_counted TooDeep n other = refl
not_counted TooMany n other = refl
not_counted NoMemory n other = refl

pub refused_otherwise : (fault : ReadFault) → refusal_of fault ≢ WriteFailed
refused_otherwise reading.NotAPlan e = cc
refused_otherwise (reading.Plan builder.OutOfRange) e = cc
refused_otherwise (reading.Plan builder.TooDeep) e = cc
refused_otherwise (reading.Plan builder.TooMany) e = cc
refused_otherwise (reading.Plan builder.NoMemory) e = cc

-- no read failed where what is told was written
answers_no_read : (r : Report) (n : ℕ) → count_of_reads (answer_of r) n ≡ n
answers_no_read (told.Read text) n = refl
answers_no_read (told.NotJson text) n = refl
answers_no_read (told.Refused reading.NotAPlan text) n = refl
answers_no_read (told.Refused (reading.Plan builder.OutOfRange) text) n = refl
answers_no_read (told.Refused (reading.Plan builder.TooDeep) text) n = refl
answers_no_read (told.Refused (reading.Plan builder.TooMany) text) n = refl
answers_no_read (told.Refused (reading.Plan builder.NoMemory) text) n = refl

pub put_no_read : (r : Report) (t t' : Option (List ℕ)) (result : Result (Unit {0}) PrintFault) (n : ℕ) →
    PutsText (text_of r) (answer_of r) t t' result → count_of_reads result n ≡ n
put_no_read r t t' result n (inl (e, put)) = ap (λ x. count_of_reads x n) e ∙ answers_no_read r n
put_no_read r t t' result n (inr (e, put)) = ap (λ x. count_of_reads x n) e

module _ (l m t t' : Option (List ℕ)) (bytes : List ℕ) (whole : IsWholeInput l m bytes) where
  told_written : (r : Report) → IsReport bytes r → Appends t t' (text_of r) → PrintsCheck l m t t' (answer_of r)
  told_written (told.Read text) is put = (bytes, whole, (told.Read text, is, (refl, put)))
  told_written (told.NotJson text) is put = (bytes, whole, (told.NotJson text, is, (refl, put)))
  told_written (told.Refused reading.NotAPlan text) is put =
      (bytes, whole, (told.Refused reading.NotAPlan text, is, (refl, put)))
  told_written (told.Refused (reading.Plan builder.OutOfRange) text) is put =
      (bytes, whole, (told.Refused (reading.Plan builder.OutOfRange) text, is, (refl, put)))
  told_written (told.Refused (reading.Plan builder.TooDeep) text) is put =
      (bytes, whole, (told.Refused (reading.Plan builder.TooDeep) text, is, (refl, put)))
  told_written (told.Refused (reading.Plan builder.TooMany) text) is put =
      (bytes, whole, (told.Refused (reading.Plan builder.TooMany) text, is, (refl, put)))
  told_written (told.Refused (reading.Plan builder.NoMemory) text) is put =
      (text_of (told.Refused (reading.Plan builder.NoMemory) text), put)

  pub told_put : (r : Report) (result : Result (Unit {0}) PrintFault) → IsReport bytes r
      → PutsText (text_of r) (answer_of r) t t' result →
      PrintsCheck l m t t' result
  told_put r result is (inl (e, put)) = subst (PrintsCheck l m t t') (sym e) (told_written r is put)
  told_put r result is (inr (e, front)) = subst (PrintsCheck l m t t') (sym e) (bytes, whole, (r, is, front))
