-- What a stepper keeps of a plan's state, in either form.
use Rattle.std.specs.Prelude.{◌≡◌, ℕ, false, if◌then◌else◌, List, [], length, Option, Some, None, IfSome, IsTrue}
use Rattle.sched_time.specs.declared.starts.Decision.{Decision}
use Rattle.sched_plan.specs.Schedule.{Schedule}
use Rattle.sched_plan.specs.Answer.{answer}
use Rattle.sched_plan.specs.declared.history.Event.{Event}
use Rattle.sched_step.specs.Progress.{Progress, fits}
use Rattle.sched_step.specs.StateOf.{state_of}
use Rattle.sched_step_flat.specs.Words.{width_of}
use Rattle.sched_step_flat.specs.Record.{has_record, record_after}
use Rattle.sched_driver_stepper.specs.Standing.{Standing, words_after, tree_after}
use Rattle.sched_driver_stepper.specs.declared.kept.Kept.{Kept}
use Rattle.sched_driver_stepper.specs.declared.kept.Kept.TheVariants.{Flat, Tree}

abbrev pub words_in : Kept → List ℕ
words_in (Flat words first) = words
words_in (Tree tree) = []

abbrev pub tree_in : Kept → Option Progress
tree_in (Flat words first) = None
tree_in (Tree tree) = Some tree

abbrev pub standing_of : Schedule → Kept → Option ℕ → ℕ → Standing
standing_of plan kept start floor =
    record { plan = plan; words = words_in kept; tree = tree_in kept; start = start; floor = floor }

-- it is what is kept after this history
pub record IsKeptAfter (s : Schedule) (h : List Event) (kept : Kept) : Type 0 where
  pub words_are : words_in kept ≡ words_after s h
  pub tree_is : tree_in kept ≡ tree_after s h

-- the record before the first event, of the schedule's width
abbrev pub IsFirst : Schedule → List ℕ → Type 0
IsFirst s words = (words ≡ record_after s []) × (length words ≡ width_of s)

-- it may be stepped at `now`, and begin again
abbrev pub KeptFits : Schedule → Kept → ℕ → Type 0
KeptFits s (Flat words first) now = IsTrue (has_record s) × (length words ≡ width_of s)
    × IfSome first (λ known. IsFirst s known.value)
KeptFits s (Tree tree) now = (has_record s ≡ false) × IsTrue (fits s tree now)

-- it is what is kept before the first event, which may come at any moment
pub record IsFirstKept (s : Schedule) (kept : Kept) : Type 0 where
  pub value : IsKeptAfter s [] kept
  pub fits_at : (now : ℕ) → KeptFits s kept now

-- the record before the first event, where the schedule has one
abbrev pub start_of : Schedule → Option (List ℕ)
start_of s = if has_record s then Some (record_after s []) else None

pub record IsStart (s : Schedule) (start : Option (List ℕ)) : Type 0 where
  pub is : start ≡ start_of s
  pub first : IfSome start (IsFirst s)

-- what a step gives where this is the history with the step's event
pub record KeptSteps (s : Schedule) (h : List Event) (kept : Kept) (decision : Decision) : Type 0 where
  pub after : IsKeptAfter s h kept
  pub decided : decision ≡ (answer s h).decision

-- what a step by the tree gives where this is the history with the step's event
abbrev pub TreeSteps : Schedule → List Event → Progress → Decision → Type 0
TreeSteps s h tree decision = (tree ≡ state_of s h) × (decision ≡ (answer s h).decision)
