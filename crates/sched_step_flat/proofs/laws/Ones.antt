-- The step of a node over one schedule, on words.
use Rattle.std.proofs.lemmas.Bool.{false≢true}
use Rattle.std.proofs.Common.{◌≡◌, ℕ, List, [], ◌++◌, Bool, true, false, if◌then◌else◌, IsTrue}
use Rattle.std.proofs.Common.{◌+◌, ◌-◌, nat_le, refl, ap, ◌∙◌}
use Rattle.sched_time.specs.Capped.{capped}
use Rattle.sched_time.specs.declared.starts.Decision.{Decision}
use Rattle.sched_plan.specs.Datum.{Datum, num, items_of, as_number}
use Rattle.sched_plan.specs.Gates.{passes, is_wanted}
use Rattle.sched_plan.specs.Changes.{ended, goes_past, moved_decision}
use Rattle.sched_plan.specs.declared.nodes.Side.TheVariants.{Input, Output}
use Rattle.sched_plan.specs.declared.nodes.Fold.TheVariants.{Sum, Count, Max, List as Listing}
use Rattle.sched_plan.specs.declared.nodes.One.{One}
use Rattle.sched_plan.specs.declared.nodes.One.TheVariants.{Gate, Gather, AddOut, Within, EndsBy, First, Second}
use Rattle.sched_plan.specs.declared.nodes.One.TheVariants.{Nothing}
use Rattle.sched_plan.specs.declared.history.Event.{Event}
use Rattle.sched_plan.specs.declared.history.Answer.{Answer}
use Rattle.sched_step.specs.Progress.{Kept, Progress}
use Rattle.sched_step.specs.StateOf.{kept_of, seen}
use Rattle.sched_step.specs.Step.{answered, kept_or_now, since_of, total_of, listed_of, begins, one_next, one_answers}
use Rattle.sched_step.specs.Step.{one_step}
use Rattle.sched_step_flat.specs.Words.{kept_words, words_of}
use Rattle.sched_step_flat.specs.Parts.{wanted, number_datum, under, one_is_flat}
use Rattle.sched_step_flat.specs.FlatStep.{read_of, answer_of, one_reply, flat_one}
use Rattle.sched_step_flat.specs.declared.parts.Part.{Part}
use Rattle.sched_step_flat.specs.declared.parts.Part.TheVariants.{Unread, Whole, FirstOf, SecondOf}
use Rattle.sched_step_flat.specs.declared.cues.Reply.{Reply}
use Rattle.sched_step_flat.proofs.laws.Codes.{readable, kept_back}
use Rattle.sched_step_flat.proofs.laws.Plain.{plain, read_step, replied, passes_number, added_out_number}
use Rattle.sched_step_flat.proofs.laws.Plain.{number_of_number, whole_of, number_whole, list_unread, unit_unread}
use Rattle.sched_step_flat.proofs.laws.Plain.{passed_read, ended_read}

-- the node's own words after the event
own_next : (k : One) (part : Part) (s : Kept) (e : Event) (a : Answer) →
    kept_words (one_next k (readable k s) (plain e) (answer_of (read_of (under k part) a))) ≡
    kept_words (one_next k s e a)
own_next (Gather Sum) part s e a =
    ap (λ n. kept_words (one_next (Gather Sum) s e (answered (num n) a.decision))) (number_of_number a.output)
own_next (Gather Count) part s e a = refl
own_next (Gather Max) part s e a =
    ap (λ n. kept_words (one_next (Gather Max) s e (answered (num n) a.decision))) (number_of_number a.output)
own_next (Gather Listing) part s e a = refl
own_next k part s e a = refl

-- what a gate decides, where another output stands for the answer's
abbrev gate_decides : Bool → Datum → Answer → Bool → Decision
gate_decides want output a passed =
    (if is_wanted want passed then answered output a.decision else ended (answered output a.decision)).decision

-- a gate, where this is read of what it tests
gate_reply : (want : Bool) (tests : Bool) (tested : Bool) (part : Part) (a : Answer) (output : Datum) →
    tests ≡ tested →
    replied (wanted part a.output) (gate_decides want output a tests) ≡
    read_of part (if is_wanted want tested then a else ended a)
gate_reply want tests tested part a output same =
    ap (λ t. replied (wanted part a.output) (gate_decides want output a t)) same
    ∙ passed_read (is_wanted want tested) part a output

-- what is read of the node's answer
replies : (k : One) (part : Part) → IsTrue (one_is_flat k part) → (s : Kept) (e : Event) (a : Answer) →
    one_reply k part (readable k s) (plain e) (read_of (under k part) a) ≡ read_of part (one_answers k s e a)
replies (Gate Input want test bound) part flat s e a =
    gate_reply want _ _ part a (number_datum (wanted part a.output)) (passes_number test bound e.input)
replies (Gate Output want test bound) part flat s e a =
    ap (λ n. replied n
    (gate_decides want (number_datum (as_number a.output)) a (passes test bound (number_datum (as_number a.output)))))
    (whole_of part flat a.output)
    ∙ gate_reply want _ _ part a (number_datum (as_number a.output)) (passes_number test bound a.output)
replies (Gather Sum) part flat s e a = ap (λ n. replied n a.decision) (number_whole part (total_of s))
replies (Gather Count) part flat s e a = ap (λ n. replied n a.decision) (number_whole part (total_of s))
replies (Gather Max) part flat s e a = ap (λ n. replied n a.decision) (number_whole part (total_of s))
replies (Gather Listing) part flat s e a = ap (λ n. replied n a.decision) (list_unread part (items_of (listed_of s)))
replies AddOut part flat s e a =
    λ i. replied (whole_of part flat a.output i) (moved_decision (added_out_number a.output i) e.now a.decision)
replies (Within d) part flat s e a = ended_read (nat_le d (e.now - kept_or_now (since_of s) e.now)) part a _
replies (EndsBy d) part flat s e a =
    ended_read (goes_past (capped (kept_or_now (since_of s) e.now + d)) a.decision) part a _
replies First Unread flat s e a = refl
replies First Whole flat s e a = refl
replies First FirstOf flat s e a = absurd (false≢true flat)
replies First SecondOf flat s e a = absurd (false≢true flat)
replies Second Unread flat s e a = refl
replies Second Whole flat s e a = refl
replies Second FirstOf flat s e a = absurd (false≢true flat)
replies Second SecondOf flat s e a = absurd (false≢true flat)
replies Nothing part flat s e a = ap (λ n. replied n a.decision) (unit_unread part)
replies k part flat s e a = refl

begins_read : (k : One) (s : Kept) (now : ℕ) → begins k (readable k s) now ≡ begins k s now
begins_read (Gather Listing) s now = refl
begins_read (Gather Sum) s now = refl
begins_read (Gather Count) s now = refl
begins_read (Gather Max) s now = refl
begins_read k s now = refl

-- what the node makes of its schedule's step, on words
abbrev over : One → Part → Kept → Event → List ℕ × Reply → List ℕ × Reply
over k part s e r = (kept_words (one_next k s e (answer_of r.1)) ++ r.0, one_reply k part s e r.1)

module _
    (k : One) (part : Part) (flat : IsTrue (one_is_flat k part)) (e : Event)
    (state : List Event → Progress) (step : Progress → Event → Progress × Answer)
    (start : List ℕ) (start_is : start ≡ words_of (state [])) (flat_step : List ℕ → Event → List ℕ × Reply)
    (law : (h : List Event) →
    flat_step (words_of (state h)) (plain e) ≡ read_step (under k part) (step (state h) e)) where
  -- the schedule under the node is stepped, anew or not
  under_law : (anew : Bool) (h : List Event) →
      flat_step (if anew then start else words_of (state h)) (plain e) ≡
      read_step (under k part) (step (if anew then state [] else state h) e)
  under_law true h = ap (λ ws. flat_step ws (plain e)) start_is ∙ law []
  under_law false h = law h

  pub one_law : (f : List Event → Answer) (h : List Event) →
      flat_one k part start flat_step (kept_words (kept_of k f h)) (words_of (state (seen k h))) (plain e) ≡
      read_step part (one_step k (state []) step (kept_of k f h) (state (seen k h)) e)
  one_law f h =
      let s : Kept = kept_of k f h in
      let ws : List ℕ = words_of (state (seen k h)) in
      let r : Progress × Answer = step (if begins k s e.now then state [] else state (seen k h)) e in
      ap (λ s. over k part s (plain e) (flat_step (if begins k s e.now then start else ws) (plain e)))
      (kept_back k f h)
      ∙ ap (λ anew. over k part (readable k s) (plain e) (flat_step (if anew then start else ws) (plain e)))
      (begins_read k s e.now)
      ∙ ap (over k part (readable k s) (plain e)) (under_law (begins k s e.now) (seen k h))
      ∙ (λ i. (own_next k part s e r.1 i ++ words_of r.0, replies k part flat s e r.1 i))
