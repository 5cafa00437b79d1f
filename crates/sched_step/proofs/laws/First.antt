-- Before the first event, and a step that begins anew from there.
use Rattle.std.proofs.Common.{◌≡◌, List, [], Bool, true, false, ◌||◌, if◌then◌else◌, refl, ap, ◌∙◌}
use Rattle.sched_plan.specs.Schedule.{Schedule, leaf, one, two}
use Rattle.sched_plan.specs.Answer.{answer}
use Rattle.sched_plan.specs.declared.leaves.Leaf.{Leaf}
use Rattle.sched_plan.specs.declared.nodes.One.{One}
use Rattle.sched_plan.specs.declared.nodes.One.TheVariants.{Nothing}
use Rattle.sched_plan.specs.declared.nodes.Two.{Two}
use Rattle.sched_plan.specs.declared.nodes.Two.TheVariants.{Meet}
use Rattle.sched_plan.specs.declared.history.Event.{Event}
use Rattle.sched_plan.specs.declared.history.Answer.{Answer}
use Rattle.sched_step.specs.declared.leaves.LeafState.{LeafState}
use Rattle.sched_step.specs.declared.turns.Turn.{Turn}
use Rattle.sched_step.specs.Progress.{Kept, Progress, at_leaf, at_one, at_two}
use Rattle.sched_step.specs.StateOf.{kept_of, seen, turn_of, first_seen, second_seen, first_kept, first_turn, state_of}
use Rattle.sched_step.specs.Step.{leaf_next, leaf_answers, begins, one_next, one_answers, two_step, leaf_origin}
use Rattle.sched_step.specs.Step.{kept_origin, turn_origin, origin, step_of}

seen-nil : (k : One) → seen k [] ≡ []
seen-nil Nothing = refl
seen-nil k = refl

kept_of-nil : (k : One) (f : List Event → Answer) → kept_of k f [] ≡ first_kept k
kept_of-nil Nothing f = refl
kept_of-nil k f = refl

turn_of-nil : (k : Two) (f : List Event → Answer) → turn_of k f [] ≡ first_turn k
turn_of-nil Meet f = refl
turn_of-nil k f = refl

first_seen-nil : (k : Two) (f : List Event → Answer) → first_seen k f [] ≡ []
first_seen-nil Meet f = refl
first_seen-nil k f = refl

second_seen-nil : (k : Two) (f : List Event → Answer) → second_seen k f [] ≡ []
second_seen-nil Meet f = refl
second_seen-nil k f = refl

-- what a node over one schedule is made of before the first event
pub first_one : (k : One) (a : Schedule) → state_of (one k a) [] ≡ at_one (first_kept k) (state_of a [])
first_one k a = λ i. at_one (kept_of-nil k (answer a) i) (state_of a (seen-nil k i))

-- what a node over two schedules is made of before the first event
pub first_two : (k : Two) (a b : Schedule)
    → state_of (two k a b) [] ≡ at_two (first_turn k) (state_of a []) (state_of b [])
first_two k a b =
    λ i. at_two (turn_of-nil k (answer a) i) (state_of a (first_seen-nil k (answer a) i))
    (state_of b (second_seen-nil k (answer a) i))

-- A step that may begin anew is made of those of the parts.

pub leaf_anew : (fresh : Bool) (l : Leaf) (s : LeafState) (e : Event) →
    step_of (leaf l) (origin fresh (leaf l) (at_leaf s)) e ≡
    (at_leaf (leaf_next l (leaf_origin fresh l s) e), leaf_answers l (leaf_origin fresh l s) e)
leaf_anew true l s e = refl
leaf_anew false l s e = refl

-- whichever way a schedule under a fresh node begins, it begins anew
either_anew : (b : Bool) (p : Progress) → (if b then p else p) ≡ p
either_anew true p = refl
either_anew false p = refl

-- the step of a node over one schedule, from that of the schedule
abbrev pub over_one : One → Kept → Event → Progress × Answer → Progress × Answer
over_one k s e r = (at_one (one_next k s e r.1) r.0, one_answers k s e r.1)

pub one_anew : (fresh : Bool) (k : One) (a : Schedule) (s : Kept) (p : Progress) (e : Event) →
    step_of (one k a) (origin fresh (one k a) (at_one s p)) e ≡
    over_one k (kept_origin fresh k s) e (step_of a (origin (fresh || begins k s e.now) a p) e)
one_anew true k a s p e =
    ap (λ q. step_of (one k a) q e) (first_one k a)
    ∙ ap (λ q. over_one k (first_kept k) e (step_of a q e))
    (either_anew (begins k (first_kept k) e.now) (state_of a []))
one_anew false k a s p e = refl

pub two_anew : (fresh : Bool) (k : Two) (a b : Schedule) (t : Turn) (p q : Progress) (e : Event) →
    step_of (two k a b) (origin fresh (two k a b) (at_two t p q)) e ≡
    two_step k (step_of a) (step_of b) (turn_origin fresh k t) (origin fresh a p) (origin fresh b q) e
two_anew true k a b t p q e = ap (λ r. step_of (two k a b) r e) (first_two k a b)
two_anew false k a b t p q e = refl
