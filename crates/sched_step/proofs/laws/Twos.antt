-- The step of a node over two schedules: a lemma for each node, and the law that they make together.
use Rattle.std.proofs.Common.{◌≡◌, List, [], ◌∷◌, ◌++◌, Bool, true, false, cond, Option, Some, None, refl, sym, ap, ◌∙◌}
use Rattle.sched_plan.specs.Outputs.{with_input, fed}
use Rattle.sched_plan.proofs.OutputLaws.{fed-push}
use Rattle.sched_plan.specs.Answer.{meet_answer, join_answer, feed_answer, combined, follow_answer, crossing, is_done}
use Rattle.sched_plan.specs.declared.nodes.Two.{Two}
use Rattle.sched_plan.specs.declared.nodes.Two.TheVariants.{Meet, Join, Follow, Feed}
use Rattle.sched_plan.specs.declared.history.Event.{Event}
use Rattle.sched_plan.specs.declared.history.Answer.{Answer}
use Rattle.sched_step.specs.declared.turns.Turn.TheVariants.{Together, Uncrossed}
use Rattle.sched_step.specs.Progress.{Progress, at_two}
use Rattle.sched_step.specs.StateOf.{turn_at, up_to_crossing, from_crossing, turn_of, first_seen, second_seen}
use Rattle.sched_step.specs.Step.{side_by_side, past_crossing, at_crossing, follow_step, two_step}
use Rattle.sched_step.proofs.History.{from_end_of-itself, from_end_of-push}
use Rattle.sched_plan.proofs.PrefixLaws.{crossing-short, crossing-kept, crossing-push}

module _
    (front : List Event → Progress) (f : List Event → Answer) (front_step : Progress → Event → Progress × Answer)
    (front_law : (h : List Event) (e : Event) → front_step (front h) e ≡ (front (h ++ e ∷ []), f (h ++ e ∷ [])))
    (rest : List Event → Progress) (g : List Event → Answer) (rest_step : Progress → Event → Progress × Answer)
    (rest_law : (h : List Event) (e : Event) → rest_step (rest h) e ≡ (rest (h ++ e ∷ []), g (h ++ e ∷ []))) where
  -- Follow: from where the two crossed, if they did.

  abbrev followed : Option (List Event) → List Event → Progress × Answer
  followed crossed h = (
    at_two (turn_at crossed) (front (up_to_crossing crossed h)) (rest (from_crossing crossed h)),
    follow_answer f g crossed h,
  )

  -- the step at which the first schedule may be done
  at_crossing_law : (h : List Event) (e : Event) (done : Bool) →
      cond done (past_crossing (front (h ++ e ∷ [])) (rest (e ∷ []), g (e ∷ [])))
      (at_two Uncrossed (front (h ++ e ∷ [])) (rest []), f (h ++ e ∷ [])) ≡
      followed (cond done (Some (h ++ e ∷ [])) None) (h ++ e ∷ [])
  at_crossing_law h e true = ap (λ d. past_crossing (front (h ++ e ∷ [])) (rest d, g d)) (sym (from_end_of-itself h e))
  at_crossing_law h e false = refl

  follow_law : (h : List Event) (e : Event) (crossed : Option (List Event)) → crossing f h ≡ crossed →
      follow_step front_step rest_step (turn_at crossed) (front (up_to_crossing crossed h))
      (rest (from_crossing crossed h)) e ≡
      followed (crossing f (h ++ e ∷ [])) (h ++ e ∷ [])
  follow_law h e None is =
      (λ i. at_crossing (front_law h e i) (rest []) (rest_law [] e i))
      ∙ at_crossing_law h e (is_done (f (h ++ e ∷ [])).decision)
      ∙ ap (λ c. followed c (h ++ e ∷ [])) (sym (crossing-push f h e is))
  follow_law h e (Some p) is =
      ap (past_crossing (front p)) (rest_law (from_crossing (Some p) h) e)
      ∙ ap (λ d. past_crossing (front p) (rest d, g d)) (sym (from_end_of-push p h e (crossing-short f h p is)))
      ∙ ap (λ c. followed c (h ++ e ∷ [])) (sym (crossing-kept f h p e is))

  -- Feed: the second schedule is given the first one's output.

  feed_law : (h : List Event) (e : Event) →
      two_step Feed front_step rest_step Together (front h) (rest (fed f h)) e ≡ (
        at_two Together (front (h ++ e ∷ [])) (rest (fed f (h ++ e ∷ []))),
        feed_answer (f (h ++ e ∷ [])) (g (fed f (h ++ e ∷ []))),
      )
  feed_law h e =
      let a : Progress × Answer = (front (h ++ e ∷ []), f (h ++ e ∷ [])) in
      ap (λ (r : Progress × Answer). side_by_side r (rest_step (rest (fed f h)) (with_input r.1.output e))
      (feed_answer r.1 (rest_step (rest (fed f h)) (with_input r.1.output e)).1)) (front_law h e)
      ∙ ap (λ (r : Progress × Answer). side_by_side a r (feed_answer a.1 r.1))
      (rest_law (fed f h) (with_input a.1.output e))
      ∙ ap (λ d. side_by_side a (rest d, g d) (feed_answer a.1 (g d))) (sym (fed-push f h e))

  -- All nodes over two schedules.

  pub two_law : (k : Two) (h : List Event) (e : Event) →
      two_step k front_step rest_step (turn_of k f h) (front (first_seen k f h)) (rest (second_seen k f h)) e ≡ (
        at_two (turn_of k f (h ++ e ∷ [])) (front (first_seen k f (h ++ e ∷ [])))
            (rest (second_seen k f (h ++ e ∷ []))),
        combined k f g (h ++ e ∷ []),
      )
  two_law Meet h e = λ i.
      side_by_side (front_law h e i) (rest_law h e i) (meet_answer (front_law h e i).1 (rest_law h e i).1)
  two_law Join h e = λ i.
      side_by_side (front_law h e i) (rest_law h e i) (join_answer (front_law h e i).1 (rest_law h e i).1)
  two_law Feed h e = feed_law h e
  two_law Follow h e = follow_law h e (crossing f h) refl
