-- The law of a step over all schedules.
use Rattle.std.proofs.Common.{◌≡◌, List, [], ◌∷◌, ◌++◌, IsTrue}
use Rattle.std.proofs.lemmas.Bool.{and_parts}
use Rattle.sched_plan.specs.Schedule.{Schedule, leaf, one, two, one_in_range, is_valid}
use Rattle.sched_plan.specs.Answer.{answer}
use Rattle.sched_plan.specs.declared.history.Event.{Event}
use Rattle.sched_plan.specs.declared.history.Answer.{Answer}
use Rattle.sched_step.specs.Progress.{Progress, at_leaf}
use Rattle.sched_step.specs.StateOf.{state_of}
use Rattle.sched_step.specs.Step.{step_of}
use Rattle.sched_step.proofs.laws.Leaves.{leaf_next-push, leaf_answers-push}
use Rattle.sched_step.proofs.laws.Ones.{one_law}
use Rattle.sched_step.proofs.laws.Twos.{two_law}

-- from the state after any history a step gives the state and the answer after one more event
abbrev pub Steps : (List Event → Progress) → (List Event → Answer) → (Progress → Event → Progress × Answer) → Type 0
Steps state f step = (h : List Event) (e : Event) → step (state h) e ≡ (state (h ++ e ∷ []), f (h ++ e ∷ []))

pub step_law : (s : Schedule) → IsTrue (is_valid s) → Steps (state_of s) (answer s) (step_of s)
step_law (leaf l) valid = λ h e i. (at_leaf (leaf_next-push l h e i), leaf_answers-push l h e valid i)
step_law (one k a) valid =
    one_law (state_of a) (answer a) (step_of a) (step_law a (and_parts (one_in_range k) (is_valid a) valid).1) k
step_law (two k a b) valid =
    let parts = and_parts (is_valid a) (is_valid b) valid in
    two_law (state_of a) (answer a) (step_of a) (step_law a parts.0) (state_of b) (answer b) (step_of b)
    (step_law b parts.1) k
