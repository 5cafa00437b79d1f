-- The loop keeps the text so far and the steps that are left equal to the whole place.
use Rattle.std.proofs.Common.{◌≡◌, ◌++◌, drop, string_bytes}
use Rattle.sched_plan_check.specs.Places.{place_of}
use Rattle.sched_plan_hint.specs.PlaceText.{steps_text}
use Rattle.sched_plan_hint.proofs.places.push_steps.Given as goal

-- what is there with the steps that are left is the whole
abbrev pub invariant-loop-step : goal.invariant-loop-step
invariant-loop-step l =
    string_bytes l.text ++ steps_text (place_of (drop l.step-index l.steps)) ≡ string_bytes l.fn.text
    ++ steps_text (place_of l.steps)
