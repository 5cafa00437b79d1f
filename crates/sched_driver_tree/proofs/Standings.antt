-- What one more event does to what a stepper stands for.
use Rattle.std.proofs.Common.{◌≡◌, ◌≤◌, List, [], ◌∷◌, ◌++◌, Some, refl, sym, ◌∙◌, ap, subst}
use Rattle.sched_plan.specs.Schedule.{Schedule}
use Rattle.sched_plan.specs.History.{last_moment}
use Rattle.sched_plan.proofs.HistoryLaws.{last_moment-push, IsHistory-push}
use Rattle.sched_plan.specs.Answer.{answer}
use Rattle.sched_plan.specs.declared.history.Event.{Event}
use Rattle.sched_plan.specs.declared.history.Answer.{Answer}
use Rattle.sched_step.specs.Progress.{Progress}
use Rattle.sched_step.specs.StateOf.{IsStep, state_of}
use Rattle.sched_driver_tree.specs.Standing.{TreeStanding, last_answer, TreeStandsFor}
use Rattle.sched_driver_tree.specs.Stepper.{StepGives}

pub last_answer-push : (s : Schedule) (h : List Event) (e : Event)
    → last_answer s (h ++ e ∷ []) ≡ Some (answer s (h ++ e ∷ []))
last_answer-push s [] e = refl
last_answer-push s (d ∷ h) e = refl

-- with a step's state and answer it stands for the history with the step's event
stands_on : (v : TreeStanding) (h : List Event) (e : Event) (state : Progress) (given : Answer) →
    TreeStandsFor v h → v.floor ≤ e.now → IsStep v.plan (h ++ e ∷ []) state given →
    TreeStandsFor record { plan = v.plan; state = state; last = Some given; floor = e.now } (h ++ e ∷ [])
stands_on v h e state given was later step =
    let floor_is : v.floor ≡ last_moment h = ap (λ (v : TreeStanding). v.floor) was.is in
    record {
      in_order = IsHistory-push h e was.in_order (rw (← floor_is) later);
      is = λ i. record {
        plan = v.plan;
        state = step.state_is i;
        last = (ap Some step.answer_is ∙ sym (last_answer-push v.plan h e)) i;
        floor = sym (last_moment-push h e) i;
      };
    }

-- What it is after a step, whatever it stood for: the step was that of its plan, and gave this state and answer.
pub goes_on : (v : TreeStanding) (plan : Schedule) (e : Event) (state : Progress) (given : Answer) →
    plan ≡ v.plan → v.floor ≤ e.now →
    ((h : List Event) → v.state ≡ state_of plan h → IsStep plan (h ++ e ∷ []) state given) →
    (h : List Event) → TreeStandsFor v h →
    StepGives TreeStandsFor v.plan (h ++ e ∷ []) given.decision
    record { plan = v.plan; state = state; last = Some given; floor = e.now }
goes_on v plan e state given same later law h was =
    let step = subst (λ (p : Schedule). v.state ≡ state_of p h → IsStep p (h ++ e ∷ []) state given) same (law h)
    (ap (λ (v : TreeStanding). v.state) was.is) in
    record {
      stands = stands_on v h e state given was later step;
      decided = ap (λ (a : Answer). a.decision) step.answer_is;
    }
