-- The law of a step on words, over all schedules.
use Rattle.std.proofs.Common.{◌≡◌, ℕ, List, [], ◌∷◌, ◌++◌, take, drop, IsTrue, ap, ◌∙◌}
use Rattle.std.proofs.lemmas.Bool.{and_parts}
use Rattle.sched_plan.specs.Schedule.{Schedule, leaf, one, two, is_valid}
use Rattle.sched_plan.specs.Answer.{answer}
use Rattle.sched_plan.specs.declared.history.Event.{Event}
use Rattle.sched_step.specs.StateOf.{kept_of, seen, turn_of, first_seen, second_seen, state_of}
use Rattle.sched_step.specs.Step.{step_of}
use Rattle.sched_step.proofs.laws.Law.{step_law}
use Rattle.sched_step_flat.specs.Words.{one_width, two_width, width_of, kept_words, turn_words, words_of, blank}
use Rattle.sched_step_flat.specs.Parts.{under, first_wants, second_wants, one_is_flat, is_flat}
use Rattle.sched_step_flat.specs.FlatStep.{flat_one, flat_two, flat_step}
use Rattle.sched_step_flat.specs.Record.{record_after, IsDecided}
use Rattle.sched_step_flat.specs.declared.parts.Part.{Part}
use Rattle.sched_step_flat.specs.declared.parts.Part.TheVariants.{Unread}
use Rattle.sched_step_flat.specs.declared.cues.Reply.{Reply}
use Rattle.sched_step_flat.proofs.laws.Codes.{kept_length, turn_length, words_length, blank_is, take_front, drop_front}
use Rattle.sched_step_flat.proofs.laws.Plain.{plain, read_step, leaf_law}
use Rattle.sched_step_flat.proofs.laws.Ones.{one_law}
use Rattle.sched_step_flat.proofs.laws.Twos.{two_law}

-- On the words of a state a step gives the words of the next one, and what is read of the answer.
pub flat_law : (s : Schedule) (part : Part) → IsTrue (is_flat s part) → (h : List Event) (e : Event) →
    flat_step s part (words_of (state_of s h)) (plain e) ≡ read_step part (step_of s (state_of s h) e)
flat_law (leaf l) part flat h e = leaf_law l part flat h e
flat_law (one k a) part flat h e =
    let parts = and_parts (one_is_flat k part) (is_flat a (under k part)) flat in
    let own : List ℕ = kept_words (kept_of k (answer a) h) in
    let below : List ℕ = words_of (state_of a (seen k h)) in
    let long = kept_length k (answer a) h in
    (λ i. flat_one k part (blank a) (flat_step a (under k part)) (take_front own below (one_width k) long i)
    (drop_front own below (one_width k) long i) (plain e))
    ∙ one_law k part parts.0 e (state_of a) (step_of a) (blank a) (blank_is a) (flat_step a (under k part))
    (λ h. flat_law a (under k part) parts.1 h e) (answer a) h
flat_law (two k a b) part flat h e =
    let parts = and_parts (is_flat a (first_wants k part)) (is_flat b (second_wants k part)) flat in
    let g : List Event = first_seen k (answer a) h in let d : List Event = second_seen k (answer a) h in
    let own : List ℕ = turn_words (turn_of k (answer a) h) in
    let front : List ℕ = words_of (state_of a g) in let rest : List ℕ = words_of (state_of b d) in
    let n : ℕ = two_width k in
    let long = turn_length k (answer a) h in
    let both : drop n (own ++ (front ++ rest)) ≡ front ++ rest = drop_front own (front ++ rest) n long in
    (λ i. flat_two k part (flat_step a (first_wants k part)) (flat_step b (second_wants k part))
    (take_front own (front ++ rest) n long i) (take (width_of a) (both i)) (drop (width_of a) (both i)) (plain e))
    ∙ (λ i. flat_two k part (flat_step a (first_wants k part)) (flat_step b (second_wants k part)) own
    (take_front front rest (width_of a) (words_length a g) i)
    (drop_front front rest (width_of a) (words_length a g) i) (plain e))
    ∙ two_law part (state_of a) (step_of a) (flat_step a (first_wants k part)) (state_of b) (step_of b)
    (flat_step b (second_wants k part)) k (flat_law a (first_wants k part) parts.0)
    (flat_law b (second_wants k part) parts.1) (turn_of k (answer a) h) g d e

-- From the record after any history come the record and the decision after that history with the step's event.
pub record_law : (s : Schedule) → IsTrue (is_valid s) → IsTrue (is_flat s Unread) →
    (words next : List ℕ) (reply : Reply) (e : Event) → (next, reply) ≡ flat_step s Unread words (plain e) →
    (h : List Event) → words ≡ record_after s h → IsDecided s (h ++ e ∷ []) next reply.decision
record_law s valid flat words next reply e is h from =
    let all : (next, reply) ≡ read_step Unread (state_of s (h ++ e ∷ []), answer s (h ++ e ∷ [])) =
    is ∙ ap (λ ws. flat_step s Unread ws (plain e)) from ∙ flat_law s Unread flat h e
    ∙ ap (read_step Unread) (step_law s valid h e) in
    record { words_are = ap (λ r. r.0) all; decision_is = ap (λ r. r.1.decision) all }
