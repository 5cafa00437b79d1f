-- A step reads of an input and of an output a number alone.
use Rattle.std.proofs.lemmas.Bool.{false≢true}
use Rattle.std.proofs.Common.{◌≡◌, ℕ, Bool, true, false, if◌then◌else◌, IsTrue, Option, Some, None, refl, ap, ◌∙◌, List}
use Rattle.sched_time.specs.declared.starts.Decision.{Decision}
use Rattle.sched_plan.specs.Datum.{Datum, unit, num, pair, list, Items, as_number}
use Rattle.sched_plan.specs.Outputs.{number_of, with_input}
use Rattle.sched_plan.specs.Delays.{added_out}
use Rattle.sched_plan.specs.Gates.{passes}
use Rattle.sched_plan.specs.Changes.{ended, ended_where}
use Rattle.sched_plan.specs.declared.leaves.Leaf.{Leaf}
use Rattle.sched_plan.specs.declared.leaves.Leaf.TheVariants.{Identity}
use Rattle.sched_plan.specs.declared.nodes.Test.{Test}
use Rattle.sched_plan.specs.declared.history.Event.{Event}
use Rattle.sched_plan.specs.declared.history.Answer.{Answer}
use Rattle.sched_step.specs.declared.leaves.LeafState.{LeafState}
use Rattle.sched_step.specs.Progress.{Progress}
use Rattle.sched_step.specs.StateOf.{leaf_state}
use Rattle.sched_step.specs.Step.{answered, leaf_next, leaf_gives, leaf_decides}
use Rattle.sched_step_flat.specs.Words.{leaf_words, words_of}
use Rattle.sched_step_flat.specs.Parts.{wanted, number_datum, if_whole, is_undivided, leaf_is_flat}
use Rattle.sched_step_flat.specs.FlatStep.{read_of, flat_leaf}
use Rattle.sched_step_flat.specs.declared.parts.Part.{Part}
use Rattle.sched_step_flat.specs.declared.parts.Part.TheVariants.{Unread, Whole, FirstOf, SecondOf}
use Rattle.sched_step_flat.specs.declared.cues.Reply.{Reply}
use Rattle.sched_step_flat.proofs.laws.Codes.{leaf_back}

-- the event with the number that its input is, or nothing
abbrev pub plain : Event → Event
plain e = with_input (number_datum (as_number e.input)) e

-- the words of what a step gives, and what is read of its answer
abbrev pub read_step : Part → Progress × Answer → List ℕ × Reply
read_step part r = (words_of r.0, read_of part r.1)

abbrev pub replied : Option ℕ → Decision → Reply
replied number decision = record { number = number; decision = decision }

number_back : (d : Datum) → as_number (number_datum (as_number d)) ≡ as_number d
number_back unit = refl
number_back (num n) = refl
number_back (pair a b) = refl
number_back (list items) = refl

pub passes_number : (test : Test) (bound : ℕ) (d : Datum) →
    passes test bound (number_datum (as_number d)) ≡ passes test bound d
passes_number test bound unit = refl
passes_number test bound (num n) = refl
passes_number test bound (pair a b) = refl
passes_number test bound (list items) = refl

pub added_out_number : (d : Datum) → added_out (number_datum (as_number d)) ≡ added_out d
added_out_number unit = refl
added_out_number (num n) = refl
added_out_number (pair a b) = refl
added_out_number (list items) = refl

pub number_of_number : (d : Datum) → number_of (number_datum (as_number d)) ≡ number_of d
number_of_number unit = refl
number_of_number (num n) = refl
number_of_number (pair a b) = refl
number_of_number (list items) = refl

-- where no part of a pair is read, the whole is all that is read
pub whole_of : (part : Part) → IsTrue (is_undivided part) → (d : Datum) → if_whole part (as_number d) ≡ wanted part d
whole_of Unread undivided d = refl
whole_of Whole undivided d = refl
whole_of FirstOf undivided d = absurd (false≢true undivided)
whole_of SecondOf undivided d = absurd (false≢true undivided)

pub number_whole : (part : Part) (n : ℕ) → if_whole part (Some n) ≡ wanted part (num n)
number_whole Unread n = refl
number_whole Whole n = refl
number_whole FirstOf n = refl
number_whole SecondOf n = refl

pub list_unread : (part : Part) (items : Items) → None ≡ wanted part (list items)
list_unread Unread items = refl
list_unread Whole items = refl
list_unread FirstOf items = refl
list_unread SecondOf items = refl

pub unit_unread : (part : Part) → None ≡ wanted part unit
unit_unread Unread = refl
unit_unread Whole = refl
unit_unread FirstOf = refl
unit_unread SecondOf = refl

-- what is read of an answer that may be ended, where another output stands for the answer's
pub passed_read : (goes : Bool) (part : Part) (a : Answer) (output : Datum) →
    replied (wanted part a.output)
    (if goes then answered output a.decision else ended (answered output a.decision)).decision ≡
    read_of part (if goes then a else ended a)
passed_read true part a output = refl
passed_read false part a output = refl

pub ended_read : (over : Bool) (part : Part) (a : Answer) (output : Datum) →
    replied (wanted part a.output) (ended_where over (answered output a.decision)).decision ≡
    read_of part (ended_where over a)
ended_read true part a output = refl
ended_read false part a output = refl

-- what is read of a leaf's step from its state
abbrev leaf_read : Leaf → Part → LeafState → Event → List ℕ × Reply
leaf_read l part s e = (leaf_words (leaf_next l s e), replied (wanted part (leaf_gives l s e)) (leaf_decides l s e))

input_read : (part : Part) → IsTrue (is_undivided part) → (d : Datum) →
    wanted part (number_datum (as_number d)) ≡ wanted part d
input_read Unread undivided d = refl
input_read Whole undivided d = number_back d
input_read FirstOf undivided d = absurd (false≢true undivided)
input_read SecondOf undivided d = absurd (false≢true undivided)

leaf_plain : (l : Leaf) (part : Part) → IsTrue (leaf_is_flat l part) → (s : LeafState) (e : Event) →
    leaf_read l part s (plain e) ≡ leaf_read l part s e
leaf_plain Identity part flat s e =
    λ i. (leaf_words (leaf_next Identity s e), replied (input_read part flat e.input i) (leaf_decides Identity s e))
leaf_plain l part flat s e = refl

pub leaf_law : (l : Leaf) (part : Part) → IsTrue (leaf_is_flat l part) → (h : List Event) (e : Event) →
    flat_leaf l part (leaf_words (leaf_state l h)) (plain e) ≡ leaf_read l part (leaf_state l h) e
leaf_law l part flat h e =
    ap (λ s. leaf_read l part s (plain e)) (leaf_back l h) ∙ leaf_plain l part flat (leaf_state l h) e
