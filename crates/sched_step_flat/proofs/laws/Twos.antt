-- The step of a node over two schedules, on words.
use Rattle.std.proofs.Common.{◌≡◌, ℕ, List, ◌∷◌, ◌++◌, Bool, true, false, cond, refl, ap, ◌∙◌}
use Rattle.sched_time.specs.declared.starts.Decision.{Decision}
use Rattle.sched_plan.specs.Datum.{Datum, pair}
use Rattle.sched_plan.specs.Outputs.{with_input}
use Rattle.sched_plan.specs.Answer.{meet_decisions, join_decisions, is_done}
use Rattle.sched_plan.specs.declared.nodes.Two.{Two}
use Rattle.sched_plan.specs.declared.nodes.Two.TheVariants.{Meet, Join, Follow, Feed}
use Rattle.sched_plan.specs.declared.history.Event.{Event}
use Rattle.sched_plan.specs.declared.history.Answer.{Answer}
use Rattle.sched_step.specs.declared.turns.Turn.{Turn}
use Rattle.sched_step.specs.declared.turns.Turn.TheVariants.{Together, Uncrossed, Crossed}
use Rattle.sched_step.specs.Progress.{Progress, at_two}
use Rattle.sched_step.specs.Step.{side_by_side, past_crossing, at_crossing, two_step}
use Rattle.sched_step_flat.specs.Words.{turn_words, words_of}
use Rattle.sched_step_flat.specs.Parts.{wanted, number_datum, of_first, of_second, first_wants, second_wants}
use Rattle.sched_step_flat.specs.FlatStep.{read_of, pair_number, flat_beside, flat_through, flat_crossing, flat_two}
use Rattle.sched_step_flat.specs.declared.parts.Part.{Part}
use Rattle.sched_step_flat.specs.declared.parts.Part.TheVariants.{Unread, Whole, FirstOf, SecondOf}
use Rattle.sched_step_flat.specs.declared.cues.Reply.{Reply}
use Rattle.sched_step_flat.proofs.laws.Plain.{plain, read_step, replied}

pair_read : (part : Part) (x y : Datum) →
    pair_number part (wanted (of_first part) x) (wanted (of_second part) y) ≡ wanted part (pair x y)
pair_read Unread x y = refl
pair_read Whole x y = refl
pair_read FirstOf x y = refl
pair_read SecondOf x y = refl

beside_read : (part : Part) (a b : Progress × Answer) (decision : Decision) →
    flat_beside part (read_step (of_first part) a) (read_step (of_second part) b) decision ≡
    read_step part (side_by_side a b record { output = pair a.1.output b.1.output; decision = decision })
beside_read part a b decision =
    λ i. (words_of a.0 ++ words_of b.0, replied (pair_read part a.1.output b.1.output i) decision)

crossing_read : (done : Bool) (part : Part) (a : Progress × Answer) (q : Progress) (b : Progress × Answer) →
    cond done (1 ∷ (words_of a.0 ++ words_of b.0), read_of part b.1)
    (0 ∷ (words_of a.0 ++ words_of q), read_of part a.1) ≡
    read_step part (cond done (past_crossing a.0 b) (at_two Uncrossed a.0 q, a.1))
crossing_read true part a q b = refl
crossing_read false part a q b = refl

-- a step of these words is that of this state
abbrev Reads : Part → (List Event → Progress) → (Progress → Event → Progress × Answer) →
    (List ℕ → Event → List ℕ × Reply) → Type 0
Reads part state step flat =
    (h : List Event) (e : Event) → flat (words_of (state h)) (plain e) ≡ read_step part (step (state h) e)

module _
    (part : Part)
    (front : List Event → Progress) (front_step : Progress → Event → Progress × Answer)
    (flat_a : List ℕ → Event → List ℕ × Reply)
    (rest : List Event → Progress) (rest_step : Progress → Event → Progress × Answer)
    (flat_b : List ℕ → Event → List ℕ × Reply) where
  abbrev IsRead : Two → Turn → List Event → List Event → Event → Type 0
  IsRead k t g h e =
      flat_two k part flat_a flat_b (turn_words t) (words_of (front g)) (words_of (rest h)) (plain e) ≡
      read_step part (two_step k front_step rest_step t (front g) (rest h) e)

  meet_law : Reads (of_first part) front front_step flat_a → Reads (of_second part) rest rest_step flat_b →
      (t : Turn) (g h : List Event) (e : Event) → IsRead Meet t g h e
  meet_law front_law rest_law t g h e =
      let a : Progress × Answer = front_step (front g) e in let b : Progress × Answer = rest_step (rest h) e in
      (λ i. flat_beside part (front_law g e i) (rest_law h e i)
      (meet_decisions (front_law g e i).1.decision (rest_law h e i).1.decision))
      ∙ beside_read part a b (meet_decisions a.1.decision b.1.decision)

  join_law : Reads (of_first part) front front_step flat_a → Reads (of_second part) rest rest_step flat_b →
      (t : Turn) (g h : List Event) (e : Event) → IsRead Join t g h e
  join_law front_law rest_law t g h e =
      let a : Progress × Answer = front_step (front g) e in let b : Progress × Answer = rest_step (rest h) e in
      (λ i. flat_beside part (front_law g e i) (rest_law h e i)
      (join_decisions (front_law g e i).1.decision (rest_law h e i).1.decision))
      ∙ beside_read part a b (join_decisions a.1.decision b.1.decision)

  feed_law : Reads Whole front front_step flat_a → Reads part rest rest_step flat_b →
      (t : Turn) (g h : List Event) (e : Event) → IsRead Feed t g h e
  feed_law front_law rest_law t g h e =
      let a : Progress × Answer = front_step (front g) e in
      ap (λ (r : List ℕ × Reply).
      flat_through r (flat_b (words_of (rest h)) (with_input (number_datum r.1.number) (plain e)))) (front_law g e)
      ∙ ap (flat_through (read_step Whole a)) (rest_law h (with_input a.1.output e))

  uncrossed_law : Reads part front front_step flat_a → Reads part rest rest_step flat_b →
      (g h : List Event) (e : Event) →
      flat_crossing (flat_a (words_of (front g)) (plain e)) (words_of (rest h)) (flat_b (words_of (rest h)) (plain e)) ≡
      read_step part (at_crossing (front_step (front g) e) (rest h) (rest_step (rest h) e))
  uncrossed_law front_law rest_law g h e =
      let a : Progress × Answer = front_step (front g) e in
      (λ i. flat_crossing (front_law g e i) (words_of (rest h)) (rest_law h e i))
      ∙ crossing_read (is_done a.1.decision) part a (rest h) (rest_step (rest h) e)

  follow_law : Reads part front front_step flat_a → Reads part rest rest_step flat_b →
      (t : Turn) (g h : List Event) (e : Event) → IsRead Follow t g h e
  follow_law front_law rest_law Together g h e = uncrossed_law front_law rest_law g h e
  follow_law front_law rest_law Uncrossed g h e = uncrossed_law front_law rest_law g h e
  follow_law front_law rest_law Crossed g h e =
      ap (λ (b : List ℕ × Reply). (1 ∷ (words_of (front g) ++ b.0), b.1)) (rest_law h e)

  pub two_law : (k : Two) →
      Reads (first_wants k part) front front_step flat_a → Reads (second_wants k part) rest rest_step flat_b →
      (t : Turn) (g h : List Event) (e : Event) → IsRead k t g h e
  two_law Meet = meet_law
  two_law Join = join_law
  two_law Feed = feed_law
  two_law Follow = follow_law
