-- What a stepper is to its callers: a plan, and what is kept of the events since the last reset; and the histories that
-- it may stand for.
use Rattle.std.specs.Prelude.{◌≡◌, ℕ, List, [], ◌∷◌, Option, Some, None, option_map, option_and_then, refl}
use Rattle.std.specs.Coded.{Coded, code_by, coded×, coded_ℕ, coded_option}
use Rattle.sched_time.specs.Decision.{start_of}
use Rattle.sched_time.specs.declared.starts.Decision.{Decision}
use Rattle.sched_time.specs.declared.starts.Decision.TheVariants.{Go, Done}
use Rattle.sched_plan.specs.Datum.{Datum}
use Rattle.sched_plan.specs.DatumCode.{coded_datum}
use Rattle.sched_plan.specs.Schedule.{Schedule}
use Rattle.sched_plan.specs.ScheduleCode.{coded_schedule}
use Rattle.sched_plan.specs.History.{last_moment, IsHistory}
use Rattle.sched_plan.specs.Answer.{answer}
use Rattle.sched_plan.specs.declared.history.Event.{Event}
use Rattle.sched_plan.specs.declared.history.Answer.{Answer}
use Rattle.sched_step.specs.Progress.{Progress}
use Rattle.sched_step.specs.ProgressCode.{coded_progress}
use Rattle.sched_step.specs.StateOf.{state_of}

pub record TreeStanding : Type 0 where
  pub plan : Schedule
  pub state : Progress
  pub last : Option Answer
  pub floor : ℕ

-- the schedule's answer to the last event of a history, if there was one
abbrev pub last_answer : Schedule → List Event → Option Answer
last_answer s [] = None
last_answer s (e ∷ h) = Some (answer s (e ∷ h))

-- what is kept after this history
abbrev pub tree_standing_after : Schedule → List Event → TreeStanding
tree_standing_after s h = record { plan = s; state = state_of s h; last = last_answer s h; floor = last_moment h }

-- It may stand for this history: the moments never fall, and its state, its last answer and its last moment are those
-- that the schedule's definition gives for it.
pub record TreeStandsFor (v : TreeStanding) (h : List Event) : Type 0 where
  pub in_order : IsHistory h
  pub is : v ≡ tree_standing_after v.plan h

-- the output of an answer, if there is one
abbrev pub output_given : Option Answer → Option Datum
output_given = option_map (λ a. a.output)

-- the start that an answer plans; none where there is no answer, and none where the schedule was done
abbrev pub start_planned : Option Answer → Option ℕ
start_planned = option_and_then (λ a. start_of a.decision)

abbrev decision_of : Option ℕ → Decision
decision_of (Some start) = Go start
decision_of None = Done

pub decision_back : (d : Decision) → decision_of (start_of d) ≡ d
decision_back (Go start) = refl
decision_back Done = refl

abbrev coded_decision : Coded Decision
coded_decision = code_by (Option ℕ) (coded_option coded_ℕ) start_of decision_of decision_back

abbrev coded_answer : Coded Answer
coded_answer =
    code_by (Datum × Decision) (coded× coded_datum coded_decision)
    (λ a. (a.output, a.decision)) (λ p. record { output = p.0; decision = p.1 }) (λ _. refl)

-- what is kept is stored as its parts
abbrev pub coded_tree_standing : Coded TreeStanding
coded_tree_standing =
    code_by ((Schedule × Progress) × (Option Answer × ℕ))
    (coded× (coded× coded_schedule coded_progress) (coded× (coded_option coded_answer) coded_ℕ))
    (λ v. ((v.plan, v.state), (v.last, v.floor)))
    (λ p. record { plan = p.0.0; state = p.0.1; last = p.1.0; floor = p.1.1 }) (λ _. refl)
