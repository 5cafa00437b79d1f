-- A text of which all but what is pending is written: what it comes to as more of it is written.
use Rattle.std.proofs.Common.{◌≡◌, ℕ, List, ◌++◌, Option, Result, Ok, Err, MatchResult, sym, ◌∙◌, ap, append_assoc}
use Rattle.std.specs.Io.KnownBytes.{Appends}
use Rattle.std.proofs.KnownBytes.{Appends-trans}
use Rattle.sched_cli_plan.specs.Printing.{WritesText}
use Rattle.sched_cli_plan.specs.Whole.{WritesAllBut, WritesFront, StopsWriting}
use Rattle.sched_cli_plan.specs.declared.faults.PrintFault.{PrintFault}
use Rattle.sched_cli_plan.specs.declared.faults.PrintFault.TheVariants.{ReadFailed, TooLong, NotJson, NotAPlan}
use Rattle.sched_cli_plan.specs.declared.faults.PrintFault.TheVariants.{OutOfRange, TooDeep, TooMany, NoMemory}
use Rattle.sched_cli_plan.specs.declared.faults.PrintFault.TheVariants.{WriteFailed}

module _ (old mid : Option (List ℕ)) (text pending : List ℕ) (written : WritesAllBut old mid text pending) where
  -- the text grows by a line, which is pending too
  pub grows : (line more : List ℕ) → more ≡ pending ++ line → WritesAllBut old mid (text ++ line) more
  grows line more is = (
    written.0,
    ap (λ t. t ++ line) written.1 ∙ append_assoc written.0 pending line ∙ ap (λ l. written.0 ++ l) (sym is),
    written.2,
  )

  -- some of what was pending is written
  pub moves : (new : Option (List ℕ)) (rest : List ℕ) → WritesAllBut mid new pending rest
      → WritesAllBut old new text rest
  moves new rest put = (
    written.0 ++ put.0,
    written.1 ∙ ap (λ l. written.0 ++ l) put.1 ∙ sym (append_assoc written.0 put.0 rest),
    Appends-trans old mid new written.0 put.0 written.2 put.2,
  )

  -- all of what was pending is written
  pub ends : (new : Option (List ℕ)) → Appends mid new pending → Appends old new text
  ends new put = rw written.1 (Appends-trans old mid new written.0 pending written.2 put)

  -- a front of what was pending is written
  pub breaks : (new : Option (List ℕ)) → WritesFront mid new pending → WritesFront old new text
  breaks new put = (
    written.0 ++ put.0,
    (put.1.0, written.1 ∙ ap (λ l. written.0 ++ l) put.1.1 ∙ sym (append_assoc written.0 put.0 put.1.0)),
    Appends-trans old mid new written.0 put.0 written.2 put.2,
  )

  -- writing what is pending stops at a fault
  pub stops : (new : Option (List ℕ)) (fault : PrintFault) → StopsWriting fault mid new pending
      → WritesText old new text (Err fault)
  stops new WriteFailed stop = breaks new stop
  stops new ReadFailed stop = absurd stop
  stops new TooLong stop = absurd stop
  stops new NotJson stop = absurd stop
  stops new NotAPlan stop = absurd stop
  stops new OutOfRange stop = absurd stop
  stops new TooDeep stop = absurd stop
  stops new TooMany stop = absurd stop
  stops new NoMemory stop = absurd stop

  -- writing what is pending is the last that happens
  pub closes : (new : Option (List ℕ)) (result : Result (Unit {0}) PrintFault)
      → MatchResult result (λ _. Appends mid new pending) (λ fault. StopsWriting fault mid new pending)
      → WritesText old new text result
  closes new (Ok done) put = ends new put
  closes new (Err fault) put = stops new fault put
