-- The start that `fixed` plans, when a history grows by one event.
use Rattle.std.proofs.Common.{◌≡◌, ℕ, List, [], ◌∷◌, ◌++◌, reverse, Some, refl, sym, ap, ◌∙◌}
use Rattle.std.proofs.lemmas.List.{reverse-append}
use mathlib.Core.List.{reverse-cons}
use Rattle.sched_plan.specs.Answer.{fixed_plan, fixed_start}
use Rattle.sched_plan.specs.declared.history.Event.{Event}
use Rattle.sched_step.specs.StateOf.{first_and_start}
use Rattle.sched_step.specs.Step.{first_planned, next_fixed}

-- over events that begin with one before, newest first, the plan goes on from the one before
fixed_plan-cons : (d f : ℕ) (e : Event) (earlier : List Event) (c : Event) (rest : List Event)
    → earlier ≡ rest ++ c ∷ [] →
    fixed_plan d f (e ∷ earlier) ≡ next_fixed d (Some (f, fixed_plan d f earlier)) e.now
fixed_plan-cons d f e [] c [] h = cc
fixed_plan-cons d f e [] c (b ∷ rest) h = cc
fixed_plan-cons d f e (b ∷ earlier) c rest h = refl

-- the next start follows from what is kept
pub fixed_start-push : (d : ℕ) (h : List Event) (e : Event) →
    fixed_start d (h ++ e ∷ []) ≡ next_fixed d (first_and_start d h) e.now
fixed_start-push d [] e = refl
fixed_start-push d (c ∷ h) e =
    ap (fixed_plan d c.now) (reverse-append (c ∷ h) (e ∷ []))
    ∙ fixed_plan-cons d c.now e (reverse (c ∷ h)) c (reverse h) (reverse-cons c h)

-- what is kept of the plan goes on as a step makes it
pub first_and_start-push : (d : ℕ) (h : List Event) (e : Event) →
    Some (first_planned (first_and_start d h) e.now, next_fixed d (first_and_start d h) e.now)
    ≡ first_and_start d (h ++ e ∷ [])
first_and_start-push d [] e = refl
first_and_start-push d (c ∷ h) e = ap (λ start. Some (c.now, start)) (sym (fixed_start-push d (c ∷ h) e))
