-- One step more of a place's text.
use Rattle.std.proofs.Common.{◌≡◌, ℕ, ◌+◌, ◌<◌, List, ◌∷◌, ◌++◌, length, get_or, drop, sym, ap, ◌∙◌, append_assoc}
use Rattle.std.proofs.lemmas.List.{drop_more}
use Rattle.sched_plan_check.specs.declared.places.Step.{Step}
use Rattle.sched_plan_check.specs.Places.{place_of, step_of}
use Rattle.sched_plan_hint.specs.PlaceText.{step_text, steps_text}

pub one_step : (steps : List Step) (n : ℕ) (s : Step) (text more whole : List ℕ) → n < length steps
    → s ≡ get_or steps n s →
    text ++ steps_text (place_of (drop n steps)) ≡ whole → more ≡ text ++ step_text (step_of s) →
    more ++ steps_text (place_of (drop (n + 1) steps)) ≡ whole
one_step steps n s text more whole within is so_far more_is =
    let at : drop n steps ≡ s ∷ drop (n + 1) steps =
    drop_more steps n s within ∙ ap (λ x. x ∷ drop (n + 1) steps) (sym is) in
    ap (λ t. t ++ steps_text (place_of (drop (n + 1) steps))) more_is
    ∙ append_assoc text (step_text (step_of s)) (steps_text (place_of (drop (n + 1) steps)))
    ∙ ap (λ l. text ++ steps_text (place_of l)) (sym at)
    ∙ so_far
