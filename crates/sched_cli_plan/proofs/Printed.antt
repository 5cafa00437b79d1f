-- What is true while a plan's lines are written, one event after another.
use Rattle.std.proofs.Common.{◌≡◌, ℕ, ◌≤◌, List, [], ◌++◌, Option, sym, ◌∙◌, ap, append_assoc}
use Rattle.std.proofs.lemmas.List.Concat.{flat_map-append}
use Rattle.std.proofs.KnownBytes.{Appends-nil}
use Rattle.sched_plan.specs.Schedule.{Schedule}
use Rattle.sched_step.specs.Progress.{Progress}
use Rattle.sched_plan_course.specs.Course.{Course}
use Rattle.sched_plan_course.specs.Run.{run}
use Rattle.sched_plan_course.specs.Lines.{lines_of}
use Rattle.sched_plan_course.proofs.Along.{IsAlong, course-leads}
use Rattle.sched_cli_plan.specs.PlanText.{line_text, lines_text, plan_text}
use Rattle.sched_cli_plan.specs.Whole.{IsFront, WritesAllBut}

pub IsFront-trans : (a b c : List ℕ) → IsFront a b → IsFront b c → IsFront a c
IsFront-trans a b c ab bc = (ab.0 ++ bc.0, bc.1 ∙ ap (λ t. t ++ bc.0) ab.1 ∙ append_assoc a ab.0 bc.0)

-- the text of the first lines is a front of that of all
pub front_of_plan : (s : Schedule) (o : Course) (n : ℕ) → n ≤ o.steps
    → IsFront (lines_text (lines_of s (run s o n))) (plan_text s o)
front_of_plan s o n within =
    let leads = course-leads s o n within in
    (lines_text leads.0, ap lines_text leads.1 ∙ flat_map-append line_text (lines_of s (run s o n)) leads.0)

-- n lines of the plan are written but for what is pending, and the next event is at `now`
pub record IsPrinted (s : Schedule) (o : Course) (n now : ℕ) (state : Progress) (pending : List ℕ)
    (old new : Option (List ℕ)) : Type 0 where
  pub along : IsAlong s o n now state
  pub wrote : WritesAllBut old new (lines_text (lines_of s (run s o n))) pending

pub printed_init : (s : Schedule) (o : Course) (now : ℕ) (state : Progress) (pending : List ℕ) (w : Option (List ℕ)) →
    IsAlong s o 0 now state → pending ≡ [] → IsPrinted s o 0 now state pending w w
printed_init s o now state pending w along empty = record { along = along; wrote = ([], sym empty, Appends-nil w) }
