-- Events that a stepper is given one after another.
use Rattle.std.proofs.Common.{◌≡◌, ℕ, suc, ◌+◌, ◌<◌, List, [], ◌∷◌, ◌++◌, length, take, drop, get_or, refl}
use Rattle.std.proofs.Common.{sym, ◌∙◌, ap, subst, add-one, append_assoc}
use Rattle.std.proofs.lemmas.List.{take-append-drop}
use Rattle.std.proofs.Math.Seq.{take-suc, drop-cons}
use Rattle.sched_time.specs.declared.starts.Decision.{Decision}
use Rattle.sched_plan.specs.declared.history.Event.{Event}
use Rattle.sched_driver_tree.specs.declared.trees.StepFault.{StepFault}
use Rattle.sched_driver_tree.specs.Stepper.{StepGives, RefusesStep}
use Rattle.sched_driver_stepper.specs.Standing.{Standing, StandsFor}
use Rattle.sched_driver_stepper.specs.Stepper.{EndsEarly}

-- it has had these events, after those that it had before
pub record HasPlayed (old new : Standing) (events : List Event) : Type 0 where
  pub same_plan : new.plan ≡ old.plan
  pub stands : (h : List Event) → StandsFor old h → StandsFor new (h ++ events)

-- the step of the event at a place takes it to one event more
pub played_one : (old mid new : Standing) (events : List Event) (i : ℕ) (e : Event) (d : Decision) →
    i < length events → e ≡ get_or events i e → HasPlayed old mid (take i events) → new.plan ≡ mid.plan →
    ((h : List Event) → StandsFor mid h → StepGives StandsFor mid.plan (h ++ e ∷ []) d new) →
    HasPlayed old new (take (i + 1) events)
played_one old mid new events i e d within item so_far plan goes = record {
  same_plan = plan ∙ so_far.same_plan;
  stands = λ h was.
      let grown : take (i + 1) events ≡ take i events ++ e ∷ [] = rw (add-one, take-suc events i e, ← item) refl in
      subst (λ es. StandsFor new (h ++ es)) (sym grown)
      (subst (StandsFor new) (append_assoc h (take i events) (e ∷ []))
      (goes (h ++ take i events) (so_far.stands h was)).stands);
}

-- where the event at a place is refused, the play ends early
pub ends_early : (old mid new : Standing) (events : List Event) (i : ℕ) (e : Event) (fault : StepFault)
    (h : List Event) →
    i < length events → e ≡ get_or events i e → HasPlayed old mid (take i events) → new ≡ mid →
    RefusesStep mid.floor e.now fault → StandsFor old h → EndsEarly h events fault new
ends_early old mid new events i e fault h within item so_far same why was = record {
  played = take i events;
  refused = e;
  rest = drop (suc i) events;
  are = sym (take-append-drop i events) ∙ ap (λ es. take i events ++ es)
      (drop-cons events i e within ∙ ap (λ x. x ∷ drop (suc i) events) (sym item));
  stands = subst (λ v. StandsFor v (h ++ take i events)) (sym same) (so_far.stands h was);
  why = subst (λ v. RefusesStep v.floor e.now fault) (sym same) why;
}
