-- One step as the code makes it, on words alone. That it meets the definition over whole histories is what
-- `Record::advance` ensures.
use Rattle.std.specs.Prelude.{◌≡◌, ℕ, Bool, true, false, if◌then◌else◌, nat_eq, List, ◌∷◌, ◌++◌, take, drop}
use Rattle.std.specs.Prelude.{slice_index, Option, Some, None}
use Rattle.sched_time.specs.declared.starts.Decision.{Decision}
use Rattle.sched_time.specs.declared.starts.Decision.TheVariants.{Done}
use Rattle.sched_plan.specs.Schedule.{Schedule, leaf, one, two}
use Rattle.sched_plan.specs.Outputs.{with_input}
use Rattle.sched_plan.specs.Gates.{is_wanted, passes}
use Rattle.sched_plan.specs.Answer.{meet_decisions, join_decisions, is_done}
use Rattle.sched_plan.specs.declared.leaves.Leaf.{Leaf}
use Rattle.sched_plan.specs.declared.leaves.Leaf.TheVariants.{Fixed, Windowed, ExponentialMilli, Decorrelated}
use Rattle.sched_plan.specs.declared.nodes.Side.TheVariants.{Output}
use Rattle.sched_plan.specs.declared.nodes.Fold.TheVariants.{Sum, Count, Max, List as Listing}
use Rattle.sched_plan.specs.declared.nodes.Test.{Test}
use Rattle.sched_plan.specs.declared.nodes.One.{One}
use Rattle.sched_plan.specs.declared.nodes.One.TheVariants.{Gate, Gather, AddOut, Jitter, Nothing}
use Rattle.sched_plan.specs.declared.nodes.Two.{Two}
use Rattle.sched_plan.specs.declared.nodes.Two.TheVariants.{Meet, Join, Follow, Feed}
use Rattle.sched_plan.specs.declared.history.Event.{Event}
use Rattle.sched_plan.specs.declared.history.Answer.{Answer}
use Rattle.sched_step.specs.Progress.{Kept}
use Rattle.sched_step.specs.StateOf.{event_of}
use Rattle.sched_step.specs.Step.{answered, leaf_next, leaf_gives, leaf_decides, total_of, begins, one_next}
use Rattle.sched_step.specs.Step.{one_answers}
use Rattle.sched_step_flat.specs.Words.{one_width, two_width, width_of, leaf_words, leaf_from, kept_words, kept_from}
use Rattle.sched_step_flat.specs.Words.{blank}
use Rattle.sched_step_flat.specs.Parts.{wanted, number_datum, if_whole, under, first_wants, second_wants}
use Rattle.sched_step_flat.specs.declared.parts.Part.{Part}
use Rattle.sched_step_flat.specs.declared.parts.Part.TheVariants.{Unread, Whole, FirstOf, SecondOf}
use Rattle.sched_step_flat.specs.declared.cues.Cue.{Cue}
use Rattle.sched_step_flat.specs.declared.cues.Reply.{Reply}

-- the event of a cue, whose input is a number or nothing
abbrev pub cued : Cue → Event
cued cue = event_of cue.tick (number_datum cue.input)

-- what is read of an answer, and its decision
abbrev pub read_of : Part → Answer → Reply
read_of part a = record { number = wanted part a.output; decision = a.decision }

-- an answer of which as much is read as of the reply
abbrev pub answer_of : Reply → Answer
answer_of r = answered (number_datum r.number) r.decision

abbrev pub flat_leaf : Leaf → Part → List ℕ → Event → List ℕ × Reply
flat_leaf l part ws e = (
  leaf_words (leaf_next l (leaf_from l ws) e),
  record { number = wanted part (leaf_gives l (leaf_from l ws) e); decision = leaf_decides l (leaf_from l ws) e },
)

-- whether a step of the leaf divides
abbrev pub divides : Leaf → Bool
divides (Fixed length) = true
divides (Windowed length) = true
divides (ExponentialMilli base thousandths) = true
divides (Decorrelated lane base thousandths most) = true
divides l = false

-- a leaf's words and reply are these after one more event
abbrev pub LeafSteps : Leaf → Part → List ℕ → Event → List ℕ → Reply → Type 0
LeafSteps l part ws e next reply = (next, reply) ≡ flat_leaf l part ws e

-- the number that is read of a node over one schedule, where this one is read of the schedule
abbrev pub one_number : One → Part → Kept → Option ℕ → Option ℕ
one_number (Gate Output want test bound) part s number = if_whole part number
one_number (Gather Sum) part s number = if_whole part (Some (total_of s))
one_number (Gather Count) part s number = if_whole part (Some (total_of s))
one_number (Gather Max) part s number = if_whole part (Some (total_of s))
one_number (Gather Listing) part s number = None
one_number AddOut part s number = if_whole part number
one_number Nothing part s number = None
one_number k part s number = number

abbrev pub one_reply : One → Part → Kept → Event → Reply → Reply
one_reply k part s e r =
    record { number = one_number k part s r.number; decision = (one_answers k s e (answer_of r)).decision }

-- a node over one schedule, whose words before the first event are `start`
abbrev pub flat_one : One → Part → List ℕ → (List ℕ → Event → List ℕ × Reply) →
    List ℕ → List ℕ → Event → List ℕ × Reply
flat_one k part start step own ws e =
    let s = kept_from k (slice_index own 0) in
    let r = step (if begins k s e.now then start else ws) e in
    (kept_words (one_next k s e (answer_of r.1)) ++ r.0, one_reply k part s e r.1)

-- the number that is read of a pair, where these are read of its parts
abbrev pub pair_number : Part → Option ℕ → Option ℕ → Option ℕ
pair_number Unread a b = None
pair_number Whole a b = None
pair_number FirstOf a b = a
pair_number SecondOf a b = b

-- two schedules that were stepped side by side
abbrev pub flat_beside : Part → List ℕ × Reply → List ℕ × Reply → Decision → List ℕ × Reply
flat_beside part a b decision =
    (a.0 ++ b.0, record { number = pair_number part a.1.number b.1.number; decision = decision })

-- two schedules one through the other
abbrev pub flat_through : List ℕ × Reply → List ℕ × Reply → List ℕ × Reply
flat_through a b =
    (a.0 ++ b.0, record { number = b.1.number; decision = meet_decisions a.1.decision b.1.decision })

-- the first of two schedules in turn was stepped: where it is done, the second answers the same event
abbrev pub flat_crossing : List ℕ × Reply → List ℕ → List ℕ × Reply → List ℕ × Reply
flat_crossing a ws b = if is_done a.1.decision then (1 ∷ a.0 ++ b.0, b.1) else (0 ∷ a.0 ++ ws, a.1)

-- a node over two schedules, of which `own`, `front` and `rest` are the words
abbrev pub flat_two : Two → Part → (List ℕ → Event → List ℕ × Reply) → (List ℕ → Event → List ℕ × Reply) →
    List ℕ → List ℕ → List ℕ → Event → List ℕ × Reply
flat_two Meet part step_a step_b own front rest e =
    let a = step_a front e in let b = step_b rest e in
    flat_beside part a b (meet_decisions a.1.decision b.1.decision)
flat_two Join part step_a step_b own front rest e =
    let a = step_a front e in let b = step_b rest e in
    flat_beside part a b (join_decisions a.1.decision b.1.decision)
flat_two Feed part step_a step_b own front rest e =
    let a = step_a front e in flat_through a (step_b rest (with_input (number_datum a.1.number) e))
flat_two Follow part step_a step_b own front rest e =
    if nat_eq (slice_index own 0) 0 then flat_crossing (step_a front e) rest (step_b rest e) else
    (let b = step_b rest e in (own ++ (front ++ b.0), b.1))

-- the words after one more event, and what is read of the answer to it
abbrev pub flat_step : Schedule → Part → List ℕ → Event → List ℕ × Reply
flat_step (leaf l) part ws e = flat_leaf l part ws e
flat_step (one k a) part ws e =
    flat_one k part (blank a) (flat_step a (under k part)) (take (one_width k) ws) (drop (one_width k) ws) e
flat_step (two k a b) part ws e =
    flat_two k part (flat_step a (first_wants k part)) (flat_step b (second_wants k part)) (take (two_width k) ws)
    (take (width_of a) (drop (two_width k) ws)) (drop (width_of a) (drop (two_width k) ws)) e

-- a reply of which nothing but the decision is read
abbrev pub unread : Decision → Reply
unread decision = record { number = None; decision = decision }

-- the words and the reply are these after one more event
abbrev pub FlatSteps : Schedule → Part → List ℕ → Event → List ℕ → Reply → Type 0
FlatSteps s part ws e next reply = (next, reply) ≡ flat_step s part ws e

-- where nothing is read of the output, they are these words and this decision
abbrev pub Decides : Schedule → List ℕ → Event → List ℕ → Decision → Type 0
Decides s ws e next decision = FlatSteps s Unread ws e next (unread decision)

-- whether the node picks a ratio for each delay
abbrev pub is_jitter : One → Bool
is_jitter (Jitter lane least most) = true
is_jitter k = false

-- the same of two schedules under a node
abbrev pub PairSteps : Two → Schedule × Schedule → Part → List ℕ → Event → List ℕ → Reply → Type 0
PairSteps k pair part ws e next reply = FlatSteps (two k pair.0 pair.1) part ws e next reply

abbrev pub PairDecides : Two → Schedule × Schedule → List ℕ → Event → List ℕ → Decision → Type 0
PairDecides k pair ws e next decision = Decides (two k pair.0 pair.1) ws e next decision

-- the decision, but done where the test of the number has not the wanted result
abbrev pub decision_gated : Bool → Test → ℕ → Option ℕ → Decision → Decision
decision_gated want test bound number decision =
    if is_wanted want (passes test bound (number_datum number)) then decision else Done
