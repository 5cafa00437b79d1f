-- What a stepper is to its callers: a plan, and what is kept of the events since the last reset; and the histories that
-- it may stand for.
use Rattle.std.specs.Prelude.{◌≡◌, ℕ, if◌then◌else◌, List, [], Option, Some, None, refl}
use Rattle.std.specs.Coded.{Coded, code_by, coded×, coded_ℕ, coded_list, coded_option}
use Rattle.sched_plan.specs.Schedule.{Schedule}
use Rattle.sched_plan.specs.ScheduleCode.{coded_schedule}
use Rattle.sched_plan.specs.History.{last_moment, IsHistory}
use Rattle.sched_plan.specs.declared.history.Event.{Event}
use Rattle.sched_step.specs.Progress.{Progress}
use Rattle.sched_step.specs.ProgressCode.{coded_progress}
use Rattle.sched_step.specs.StateOf.{state_of}
use Rattle.sched_step_flat.specs.Record.{has_record, record_after}
use Rattle.sched_driver_tree.specs.Standing.{last_answer, start_planned}

-- The state is kept in words, or in a tree where a record cannot stand for it.
pub record Standing : Type 0 where
  pub plan : Schedule
  pub words : List ℕ
  pub tree : Option Progress
  pub start : Option ℕ
  pub floor : ℕ

-- the words of the schedule's state after a history, where they can stand for it
abbrev pub words_after : Schedule → List Event → List ℕ
words_after s h = if has_record s then record_after s h else []

-- and the tree, where they cannot
abbrev pub tree_after : Schedule → List Event → Option Progress
tree_after s h = if has_record s then None else Some (state_of s h)

-- what is kept after this history
abbrev pub standing_after : Schedule → List Event → Standing
standing_after s h = record {
  plan = s;
  words = words_after s h;
  tree = tree_after s h;
  start = start_planned (last_answer s h);
  floor = last_moment h;
}

-- It may stand for this history: the moments never fall, and its state, its next start and its last moment are those
-- that the schedule's definition gives for it.
pub record StandsFor (v : Standing) (h : List Event) : Type 0 where
  pub in_order : IsHistory h
  pub is : v ≡ standing_after v.plan h

-- what is kept is stored as its parts
abbrev pub coded_standing : Coded Standing
coded_standing =
    code_by ((Schedule × List ℕ) × (Option Progress × (Option ℕ × ℕ)))
    (coded× (coded× coded_schedule (coded_list coded_ℕ))
    (coded× (coded_option coded_progress) (coded× (coded_option coded_ℕ) coded_ℕ)))
    (λ v. ((v.plan, v.words), (v.tree, (v.start, v.floor))))
    (λ p. record { plan = p.0.0; words = p.0.1; tree = p.1.0; start = p.1.1.0; floor = p.1.1.1 }) (λ _. refl)
