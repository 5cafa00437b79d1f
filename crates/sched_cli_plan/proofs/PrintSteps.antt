-- What one event does to what is true while a plan's lines are written.
use Rattle.std.proofs.Common.{◌≡◌, ℕ, ◌+◌, ◌≤◌, List, [], ◌∷◌, ◌++◌, Option, Some, None, Err, IsTrue, refl, sym, ◌∙◌}
use Rattle.std.proofs.Common.{ap, subst}
use Rattle.std.proofs.lemmas.List.{append-nil}
use Rattle.std.proofs.lemmas.List.Concat.{flat_map-append}
use Rattle.std.proofs.KnownBytes.{Appends-nil}
use Rattle.sched_time.specs.Capped.{capped}
use Rattle.sched_time.specs.Decision.{start_of}
use Rattle.sched_time.specs.declared.numbers.TheConstants.{FAR}
use Rattle.sched_plan.specs.Schedule.{Schedule}
use Rattle.sched_plan.specs.Starts.{StartsBy}
use Rattle.sched_plan.specs.declared.history.Event.{Event}
use Rattle.sched_step.specs.Progress.{Progress, fits}
use Rattle.sched_step.specs.StateOf.{state_of}
use Rattle.sched_plan_course.specs.Course.{Course}
use Rattle.sched_plan_course.specs.Run.{event_at, run}
use Rattle.sched_plan_course.specs.Lines.{lines_of, IsLine}
use Rattle.sched_plan_course.specs.declared.lines.Line.{Line}
use Rattle.sched_plan_course.proofs.Along as course
use Rattle.sched_cli_plan.specs.PlanText.{line_text, lines_text, plan_text}
use Rattle.sched_cli_plan.specs.Printing.{WritesText}
use Rattle.sched_cli_plan.specs.Whole.{IsFront, WritesFront, WritesAllBut, StopsWriting}
use Rattle.sched_cli_plan.specs.declared.faults.PrintFault.{PrintFault}
use Rattle.sched_cli_plan.specs.declared.faults.PrintFault.TheVariants.{ReadFailed, TooLong, NotJson, NotAPlan}
use Rattle.sched_cli_plan.specs.declared.faults.PrintFault.TheVariants.{OutOfRange, TooDeep, TooMany, NoMemory}
use Rattle.sched_cli_plan.specs.declared.faults.PrintFault.TheVariants.{WriteFailed}
use Rattle.sched_cli_plan.proofs.Printed.{IsPrinted, IsFront-trans, front_of_plan}
use Rattle.sched_cli_plan.proofs.Written.{grows, moves, stops}

-- where nothing is written, a front of any text is
pub nothing_written : (w : Option (List ℕ)) (text : List ℕ) → WritesFront w w text
nothing_written w text = ([], (text, refl), Appends-nil w)

-- where printing stops between two lines, a front of the text is written
pub stopped : (s : Schedule) (o : Course) (n now : ℕ) (state : Progress) (pending : List ℕ)
    (old new : Option (List ℕ)) →
    IsPrinted s o n now state pending old new → n ≤ o.steps → WritesFront old new (plan_text s o)
stopped s o n now state pending old new printed within =
    let front = printed.wrote.0 in (
      front,
      IsFront-trans front (lines_text (lines_of s (run s o n))) (plan_text s o) (pending, printed.wrote.1)
          (front_of_plan s o n within),
      printed.wrote.2,
    )

-- after the last step all of the text is written but what is pending
pub all_steps : (s : Schedule) (o : Course) (n now : ℕ) (state : Progress) (pending : List ℕ)
    (old new : Option (List ℕ)) →
    IsPrinted s o n now state pending old new → n ≡ o.steps → WritesAllBut old new (plan_text s o) pending
all_steps s o n now state pending old new printed last =
    subst (λ k. WritesAllBut old new (lines_text (lines_of s (run s o k))) pending) last printed.wrote

-- where writing stops in a front of the text, it stops in the text
pub front_of_text : (old new : Option (List ℕ)) (front text : List ℕ) (fault : PrintFault) → IsFront front text →
    WritesText old new front (Err fault) → WritesText old new text (Err fault)
front_of_text old new front text WriteFailed is wrote = (wrote.0, IsFront-trans wrote.0 front text wrote.1 is, wrote.2)
front_of_text old new front text NoMemory is wrote = (wrote.0, IsFront-trans wrote.0 front text wrote.1 is, wrote.2)
front_of_text old new front text ReadFailed is wrote = absurd wrote
front_of_text old new front text TooLong is wrote = absurd wrote
front_of_text old new front text NotJson is wrote = absurd wrote
front_of_text old new front text NotAPlan is wrote = absurd wrote
front_of_text old new front text OutOfRange is wrote = absurd wrote
front_of_text old new front text TooDeep is wrote = absurd wrote
front_of_text old new front text TooMany is wrote = absurd wrote

-- the event at `now` comes, and the text of its line is pending
module _ (s : Schedule) (o : Course) (n now : ℕ) (e : Event) (state next : Progress) (line : Line)
    (pending more : List ℕ)
    (old mid : Option (List ℕ)) (printed : IsPrinted s o n now state pending old mid) (event_is : e ≡ event_at o n now)
    (stepped : (h : List Event) → state ≡ state_of s h → IsLine s (h ++ e ∷ []) next line)
    (more_is : more ≡ pending ++ line_text line) where
  -- the text so far and the line's are the text of the longer run
  text_next : lines_text (lines_of s (run s o n)) ++ line_text line ≡ lines_text (lines_of s (run s o (n + 1)))
  text_next =
      ap (λ t. lines_text (lines_of s (run s o n)) ++ t) (sym (append-nil (line_text line)))
      ∙ sym (flat_map-append line_text (lines_of s (run s o n)) (line ∷ []))
      ∙ ap lines_text (course.lines_next s o n now e state next line printed.along event_is stepped)

  -- once the line is pending, all of the longer run's lines are written but what is pending
  pub one_more : WritesAllBut old mid (lines_text (lines_of s (run s o (n + 1)))) more
  one_more =
      subst (λ text. WritesAllBut old mid text more) text_next
      (grows old mid (lines_text (lines_of s (run s o n))) pending printed.wrote (line_text line) more more_is)

  -- where the plan is done, that is all of the text
  pub finished : n + 1 ≤ o.steps → None ≡ start_of line.decision → WritesAllBut old mid (plan_text s o) more
  finished within done =
      subst (λ text. WritesAllBut old mid text more)
      (ap lines_text (course.ended s o n now e state next line printed.along event_is stepped within done)) one_more

  -- where it goes on, the next event is at its start and the time that its work took
  pub goes_on : (rest : List ℕ) (new : Option (List ℕ)) (start then : ℕ) → WritesAllBut mid new more rest →
      Some start ≡ start_of line.decision → then ≡ capped (start + o.took) → StartsBy e.now line.decision
      → e.now ≤ FAR →
      ((later : ℕ) → e.now ≤ later → IsTrue (fits s next later)) → IsPrinted s o (n + 1) then next rest old new
  goes_on rest new start then put going then_is from in_range fit = record {
    along =
        course.goes_on s o n now e state next line printed.along event_is stepped start then going then_is from
        in_range fit;
    wrote = moves old mid (lines_text (lines_of s (run s o (n + 1)))) more one_more new rest put;
  }

  -- where a write fails, a front of the text is written
  pub stopped_in_line : (new : Option (List ℕ)) (fault : PrintFault) → n + 1 ≤ o.steps
      → StopsWriting fault mid new more →
      WritesText old new (plan_text s o) (Err fault)
  stopped_in_line new fault within stop =
      front_of_text old new (lines_text (lines_of s (run s o (n + 1)))) (plan_text s o) fault
      (front_of_plan s o (n + 1) within)
      (stops old mid (lines_text (lines_of s (run s o (n + 1)))) more one_more new fault stop)
