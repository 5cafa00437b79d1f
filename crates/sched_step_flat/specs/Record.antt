-- What a record is to its callers: the words of a schedule's state after the events so far.
use Rattle.std.specs.Prelude.{◌≡◌, ℕ, Bool, List}
use Rattle.sched_time.specs.declared.starts.Decision.{Decision}
use Rattle.sched_plan.specs.Schedule.{Schedule}
use Rattle.sched_plan.specs.Answer.{answer}
use Rattle.sched_plan.specs.declared.history.Event.{Event}
use Rattle.sched_step.specs.StateOf.{state_of}
use Rattle.sched_step_flat.specs.Words.{words_of}
use Rattle.sched_step_flat.specs.Parts.{is_flat}
use Rattle.sched_step_flat.specs.declared.parts.Part.TheVariants.{Unread}

-- whether a record can stand for the schedule's state: its decisions read no more than a number of any output
abbrev pub has_record : Schedule → Bool
has_record s = is_flat s Unread

-- the record after this history
abbrev pub record_after : Schedule → List Event → List ℕ
record_after s h = words_of (state_of s h)

-- what a step of the schedule has to give where this is the history with the step's event
pub record IsDecided (s : Schedule) (h : List Event) (words : List ℕ) (given : Decision) : Type 0 where
  pub words_are : words ≡ record_after s h
  pub decision_is : given ≡ (answer s h).decision
