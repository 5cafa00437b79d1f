-- What is found below a node, and what leads on from it.
use Rattle.std.proofs.Common.{◌≡◌, inl, inr, ℕ, List, [], ◌∷◌, ◌++◌, Option, Some, None, Result, Ok, Err, IfOk, sym, ap}
use Rattle.std.proofs.Common.{◌∙◌, subst}
use Rattle.std.proofs.lemmas.List.{append_assoc, append-nil}
use Rattle.serde_json.specs.Data.{Data}
use Rattle.serde_json.specs.View.{view}
use Rattle.sched_plan_json.specs.PlanOf.{plan_of, spelt_of}
use Rattle.sched_plan_json.specs.declared.faults.ReadFault.{ReadFault}
use Rattle.sched_plan_check.specs.declared.below.Below.{Below}
use Rattle.sched_plan_check.specs.declared.places.Fault.{Fault}
use Rattle.sched_plan_check.specs.declared.places.Step.{Step}
use Rattle.sched_plan_check.specs.Checked.{IsPlanFault}
use Rattle.sched_plan_check.specs.Below.{IsFirstBelow}
use Rattle.sched_plan_check.specs.Places.{Into, place_of}
use Rattle.sched_plan_check.specs.PlanFaults.{IsNext, plans_in, name_in, steps_to, FirstFault, own, below, LeadsOn}
use Rattle.sched_plan_check.proofs.Leads.{leads, refused, whole}

-- the first of one plan is the first of two
pub first_stays : (p q : Option ℕ × Data) (b : Below) → IsFirstBelow (p ∷ []) (Some b)
    → IsFirstBelow (p ∷ q ∷ []) (Some b)
first_stays p q b (inl e, is) = (inl e, is)
first_stays p q b (inr later, is) = absurd later.1

-- after a plan that is read the first of the second is the first of both
pub then_second : (p q : Option ℕ × Data) (found : Option Below) → IsFirstBelow (p ∷ []) None
    → IsFirstBelow (q ∷ []) found →
    IsFirstBelow (p ∷ q ∷ []) found
then_second p q None read h = (read.0, h)
then_second p q (Some b) read h = (inr (read.0, h.0), h.1)

-- where no plan below is refused, the place is this one
pub leads_here : (d : Data) (place : List Into) (fault : ReadFault) → plan_of d ≡ Err fault
    → IsFirstBelow (plans_in (spelt_of d)) None →
    LeadsOn fault d place place d
leads_here d place fault is all = ([], sym (append-nil place), own d is all)

-- from the first plan below that is refused the place leads on
pub leads_below : (d a v : Data) (item : Option ℕ) (before next place : List Into) (fault : ReadFault) →
    IsNext (plans_in (spelt_of d)) item a → next ≡ before ++ steps_to (name_in d) item → LeadsOn fault a next place v →
    LeadsOn fault d before place v
leads_below d a v item before next place fault is steps on = (
  steps_to (name_in d) item ++ on.0,
  on.1 ∙ ap (λ p. p ++ on.0) steps ∙ append_assoc before _ on.0,
  below d a v item on.0 is on.2,
)

-- from no step at all the place leads to the first fault
pub plan_fault : (d : Data) (found : Fault) (steps : List Step) → steps ≡ [] →
    LeadsOn found.fault d (place_of steps) (place_of found.place.items) (view found.value.now) → IsPlanFault d found
plan_fault d found steps none on =
    let at : place_of found.place.items ≡ on.0 = on.1 ∙ ap (λ s. place_of s ++ on.0) none in
    let first : FirstFault found.fault d (place_of found.place.items) (view found.value.now) =
    subst (λ p. FirstFault found.fault d p (view found.value.now)) (sym at) on.2 in
    record {
      fault = whole found.fault d _ _ first;
      leads = leads found.fault d _ _ first;
      refused = refused found.fault d _ _ first;
      first = first;
    }

pub if_ok_by : {A E : Type 0} (r : Result A E) (P Q : A → Type 0) → ((x : A) → P x → Q x) → IfOk r P → IfOk r Q
if_ok_by (Ok x) P Q f h = f x h
if_ok_by (Err e) P Q f h = h
