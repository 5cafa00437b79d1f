-- What one more event does to what a stepper stands for.
use Rattle.std.proofs.Common.{◌≡◌, ℕ, ◌≤◌, List, [], ◌∷◌, ◌++◌, Option, sym, ◌∙◌, ap, subst}
use Rattle.sched_time.specs.Decision.{start_of}
use Rattle.sched_time.specs.declared.numbers.TheConstants.{FAR}
use Rattle.sched_time.specs.declared.starts.Decision.{Decision}
use Rattle.sched_plan.specs.Schedule.{Schedule}
use Rattle.sched_plan.specs.History.{last_moment}
use Rattle.sched_plan.proofs.HistoryLaws.{last_moment-push, IsHistory-push}
use Rattle.sched_plan.specs.Answer.{answer}
use Rattle.sched_plan.specs.Starts.{StartsBy}
use Rattle.sched_plan.proofs.Starts.{starts_are_not_before}
use Rattle.sched_plan.specs.declared.history.Event.{Event}
use Rattle.sched_driver_tree.specs.Standing.{start_planned}
use Rattle.sched_driver_tree.specs.Stepper.{StepGives}
use Rattle.sched_driver_tree.proofs.Standings.{last_answer-push}
use Rattle.sched_driver_stepper.specs.Standing.{Standing, StandsFor}
use Rattle.sched_driver_stepper.specs.Kept.{IsKeptAfter, KeptSteps, standing_of}
use Rattle.sched_driver_stepper.specs.declared.kept.Kept.{Kept}

-- What it is after a step, whatever it stood for: the step was that of its plan.
pub goes_on : (plan : Schedule) (old : Kept) (start : Option ℕ) (floor : ℕ) (new : Kept) (e : Event) (d : Decision) →
    floor ≤ e.now → ((h : List Event) → IsKeptAfter plan h old → KeptSteps plan (h ++ e ∷ []) new d) →
    (h : List Event) → StandsFor (standing_of plan old start floor) h →
    StepGives StandsFor plan (h ++ e ∷ []) d (standing_of plan new (start_of d) e.now)
goes_on plan old start floor new e d later law h was =
    let floor_is : floor ≡ last_moment h = ap (λ (v : Standing). v.floor) was.is in
    let step = law h record {
      words_are = ap (λ (v : Standing). v.words) was.is;
      tree_is = ap (λ (v : Standing). v.tree) was.is;
    } in
    record {
      stands = record {
        in_order = IsHistory-push h e was.in_order (rw (← floor_is) later);
        is = λ i. record {
          plan = plan;
          words = step.after.words_are i;
          tree = step.after.tree_is i;
          start = (ap start_of step.decided ∙ sym (ap start_planned (last_answer-push plan h e))) i;
          floor = sym (last_moment-push h e) i;
        };
      };
      decided = step.decided;
    }

-- what the definition decides at the last event is never before it
pub starts_by : (plan : Schedule) (h : List Event) (e : Event) (d : Decision) → e.now ≤ FAR →
    d ≡ (answer plan (h ++ e ∷ [])).decision → StartsBy e.now d
starts_by plan h e d far is =
    let last = last_moment-push h e in
    subst (StartsBy e.now) (sym is)
    (subst (λ now. StartsBy now (answer plan (h ++ e ∷ [])).decision) last
    (starts_are_not_before plan (h ++ e ∷ []) (subst (λ now. now ≤ FAR) (sym last) far)))
