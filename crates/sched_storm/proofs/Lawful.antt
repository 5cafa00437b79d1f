-- The tickets along the events of a storm: they keep to their bounds, and each is that of a retry that was granted.
use Rattle.std.proofs.Common.{◌≡◌, ℕ, ◌+◌, ◌≤◌, Bool, true, false, cond, List, [], ◌∷◌, Option, Some, None, refl}
use Rattle.std.proofs.Common.{sym, ap, subst, ◌∙◌, inl, inr, add-zero, arith}
use Rattle.std.proofs.lemmas.Bool.{false≢true}
use Rattle.std.specs.Prelude.{count_by}
use Rattle.std.proofs.lemmas.List.Sums.{sum_by-cons}
use Rattle.sched_time.specs.Decision.{start_of}
use Rattle.sched_plan.specs.Schedule.{Schedule}
use Rattle.sched_plan.specs.Answer.{answer}
use Rattle.sched_plan.specs.declared.history.Event.{Event as Failed_event}
use Rattle.sched_task.specs.Words.{next_four}
use Rattle.sched_storm_trace.specs.Trace.{Event, Answer, AreAnswered, told_by}
use Rattle.sched_storm_report.specs.Moments.{is_request, is_ticket, is_granted}
use Rattle.sched_storm_report.specs.declared.moments.Failure.{Failure}
use Rattle.sched_storm_report.specs.declared.moments.Moment.{Moment}
use Rattle.sched_storm_limit.specs.Limits as limits
use Rattle.sched_storm_limit.specs.Ranges.{AreDraws, has_draws}
use Rattle.sched_storm.specs.Populations.{population_of, as_population, AllDraw}
use Rattle.sched_storm.specs.Tickets.{none_drawn, asked_of, given_of, counted, draw_at, tickets_of, HasUses, AreGiven}
use Rattle.sched_storm.specs.Tickets.{IsLawful}
use Rattle.sched_storm.specs.Drivers.{input_of, with_failure}
use Rattle.sched_storm.specs.Plays.{Stage, begins, retries, succeeds, fails, Shared, is_late, drawing}
use Rattle.sched_storm.specs.Plays.{going_on, with_request, arriving, playing, played}
use Rattle.sched_storm.proofs.Bounds.{lawful_counted, lawful_drawn, counted_asked, counted_given, drawn_asked}
use Rattle.sched_storm.proofs.Bounds.{granted_given, refused_given, tickets_more}
use Rattle.sched_storm.proofs.Drawing.{DrawsOn, draws_on}
use Rattle.sched_storm.proofs.Uses.{no_uses, past_counted, past_drawn}
use Rattle.sched_storm.proofs.Balances.{AreUntil}
use Rattle.sched_storm.specs.declared.parameters.Parameters.{Parameters}
use Rattle.sched_storm_limit.specs.declared.draws.Draws.{Draws}
use Rattle.sched_storm_limit.specs.declared.draws.Draws.TheVariants.{Nothing, Budget, Quota, Limited}
use Rattle.sched_storm.specs.declared.tickets.Drawn.{Drawn}

-- What holds of the tickets where so many requests came, so many tickets were given and so many retries granted.
pub record TicketsAre (p : Parameters) (d : Drawn) (requests tickets granted : ℕ) : Type 0 where
  pub lawful : IsLawful p.draws p.until d
  pub past : HasUses p.draws d.window d.asked_before d.given_before
  pub asked : asked_of d ≤ requests
  pub given : given_of d ≡ tickets
  pub few : tickets ≤ granted
  pub all_asked : AllDraw p → has_draws p.draws ≡ true → asked_of d ≡ requests
  pub all_given : AllDraw p → tickets ≡ tickets_of p.draws granted

pub recounted : (p : Parameters) (d : Drawn) (n k g n' k' g' : ℕ) → n ≡ n' → k ≡ k' → g ≡ g' → TicketsAre p d n k g →
    TicketsAre p d n' k' g'
recounted p d n k g n' k' g' same equal alike h =
    subst (λ g. TicketsAre p d n' k' g) alike
    (subst (λ k. TicketsAre p d n' k g) equal (subst (λ n. TicketsAre p d n k g) same h))

none_here : (draws : Draws) → AreGiven draws 0 0
none_here Nothing = omega arith
none_here (Budget limit) = omega arith
none_here (Quota terms) = omega arith
none_here (Limited limit) = tt

none_lawful : (draws : Draws) (until : ℕ) → IsLawful draws until none_drawn
none_lawful draws until = record { here = none_here draws; before = omega arith; latest = omega arith }

none_given : (draws : Draws) → 0 ≡ tickets_of draws 0
none_given Nothing = refl
none_given (Budget limit) = refl
none_given (Quota terms) = refl
none_given (Limited limit) = refl

pub none_are : (p : Parameters) → TicketsAre p none_drawn 0 0 0
none_are p = record {
  lawful = none_lawful p.draws p.until;
  past = no_uses p.draws;
  asked = omega arith;
  given = refl;
  few = omega arith;
  all_asked = λ _ _. refl;
  all_given = λ _. none_given p.draws;
}

-- where a population draws on nothing, not all draw on what the storm has, or that is nothing too
none_has : (p : Parameters) (x : Draws) → DrawsOn p x → x ≡ Nothing → AllDraw p → p.draws ≡ Nothing
none_has p x on is all = sym (on.all all) ∙ is

has_none : (draws : Draws) → draws ≡ Nothing → has_draws draws ≡ true → ⊥
has_none draws is has = false≢true (sym (ap has_draws is) ∙ has)

-- a request is counted
module _ (p : Parameters) (ok : AreDraws p.draws) (t : ℕ) (by : t ≤ p.until) (n k g : ℕ) (d : Drawn)
    (h : TicketsAre p d n k g) where
  request_same : TicketsAre p (counted p.draws t d) (n + 1) k g
  request_same =
      let asked = counted_asked p.draws t d in
      let before = h.asked in
      record {
        lawful = lawful_counted p.draws p.until t d ok by h.lawful;
        past = past_counted p.draws p.until t d h.lawful h.past;
        asked = one_more (has_draws p.draws) (asked_of d) n (asked_of (counted p.draws t d)) asked before;
        given = counted_given p.draws t d ∙ h.given;
        few = h.few;
        all_asked = λ all has. asked ∙ (ap (λ b. asked_of d + cond b 1 0) has ∙ ap (λ x. x + 1) (h.all_asked all has));
        all_given = h.all_given;
      }
    where
      one_more : (b : Bool) (a n c : ℕ) → c ≡ a + cond b 1 0 → a ≤ n → c ≤ n + 1
      one_more true a n c is before = omega arith
      one_more false a n c is before = omega arith

  request_free : (x : Draws) → DrawsOn p x → x ≡ Nothing → TicketsAre p d (n + 1) k g
  request_free x on is =
      let before = h.asked in
      record {
        lawful = h.lawful;
        past = h.past;
        asked = omega arith;
        given = h.given;
        few = h.few;
        all_asked = λ all has. absurd (has_none p.draws (none_has p x on is all) has);
        all_given = h.all_given;
      }

  request_is : (x : Draws) → DrawsOn p x → TicketsAre p (counted x t d) (n + 1) k g
  request_is x on = elim on.either [
    | inl e ↦ subst (λ y. TicketsAre p (counted y t d) (n + 1) k g) (sym e) request_same
    | inr e ↦ subst (λ y. TicketsAre p (counted y t d) (n + 1) k g) (sym e) (request_free x on e)
  ]

  -- a retry is granted, by a ticket where its request's population draws on anything
  granted_same : (may : Bool) → (draw_at p.draws may t d).0 ≡ true →
      TicketsAre p (draw_at p.draws may t d).1 n (k + cond (has_draws p.draws) 1 0) (g + 1)
  granted_same may is =
      let given = granted_given p.draws may t d is in
      let asked = drawn_asked p.draws may t d in
      let before = h.asked in
      record {
        lawful = lawful_drawn p.draws may p.until t d ok by h.lawful;
        past = past_drawn p.draws may p.until t d h.lawful h.past;
        asked = omega arith;
        given = given ∙ ap (λ x. x + cond (has_draws p.draws) 1 0) h.given;
        few = one_few (has_draws p.draws) h.few;
        all_asked = λ all has. asked ∙ h.all_asked all has;
        all_given = λ all. ap (λ x. x + cond (has_draws p.draws) 1 0) (h.all_given all) ∙ tickets_more p.draws g;
      }
    where
      one_few : (b : Bool) → k ≤ g → k + cond b 1 0 ≤ g + 1
      one_few true few = omega arith
      one_few false few = omega arith

  granted_free : (x : Draws) → DrawsOn p x → x ≡ Nothing → TicketsAre p d n (k + 0) (g + 1)
  granted_free x on is =
      let few = h.few in
      let given = h.given in
      record {
        lawful = h.lawful;
        past = h.past;
        asked = h.asked;
        given = omega arith;
        few = omega arith;
        all_asked = h.all_asked;
        all_given = λ all.
            let none = none_has p x on is all in
            let zero = h.all_given all ∙ ap (λ y. tickets_of y g) none in
            let still = ap (λ y. tickets_of y (g + 1)) none in
            omega arith;
      }

  granted_is : (x : Draws) (may : Bool) → DrawsOn p x → (draw_at x may t d).0 ≡ true →
      TicketsAre p (draw_at x may t d).1 n (k + cond (has_draws x) 1 0) (g + 1)
  granted_is x may on = elim on.either [
    | inl e ↦ subst (λ y. (draw_at y may t d).0 ≡ true →
        TicketsAre p (draw_at y may t d).1 n (k + cond (has_draws y) 1 0) (g + 1)) (sym e) (granted_same may)
    | inr e ↦ subst (λ y. (draw_at y may t d).0 ≡ true →
        TicketsAre p (draw_at y may t d).1 n (k + cond (has_draws y) 1 0) (g + 1)) (sym e)
        (λ _. granted_free x on e)
  ]

  -- no ticket is left
  refused_same : (may : Bool) → (draw_at p.draws may t d).0 ≡ false →
      TicketsAre p (draw_at p.draws may t d).1 n k g
  refused_same may is =
      let asked = drawn_asked p.draws may t d in
      let before = h.asked in
      record {
        lawful = lawful_drawn p.draws may p.until t d ok by h.lawful;
        past = past_drawn p.draws may p.until t d h.lawful h.past;
        asked = omega arith;
        given = refused_given p.draws may t d is ∙ h.given;
        few = h.few;
        all_asked = λ all has. asked ∙ h.all_asked all has;
        all_given = h.all_given;
      }

  refused_is : (x : Draws) (may : Bool) → DrawsOn p x → (draw_at x may t d).0 ≡ false →
      TicketsAre p (draw_at x may t d).1 n k g
  refused_is x may on = elim on.either [
    | inl e ↦ subst (λ y. (draw_at y may t d).0 ≡ false → TicketsAre p (draw_at y may t d).1 n k g) (sym e)
        (refused_same may)
    | inr e ↦ subst (λ y. (draw_at y may t d).0 ≡ false → TicketsAre p (draw_at y may t d).1 n k g) (sym e)
        (λ h. absurd (false≢true (sym h)))
  ]

-- what an event adds to them
abbrev Adds : Parameters → ℕ → ℕ → ℕ → Drawn → Moment → Type 0
Adds p n k g d m = TicketsAre p d (n + cond (is_request m.what) 1 0) (k + cond (is_ticket m.what) 1 0)
    (g + cond (is_granted m.what) 1 0)

module _ (p : Parameters) (n k g : ℕ) (ok : AreDraws p.draws) (t : ℕ) (by : t ≤ p.until) (u : ℕ) where
  -- the storm as the request's population meets it
  abbrev q : Parameters
  q = as_population p u

  on : DrawsOn p q.draws
  on = draws_on p u

  plain : (d : Drawn) → TicketsAre p d n k g → TicketsAre p d (n + 0) (k + 0) (g + 0)
  plain d h = recounted p d n k g (n + 0) (k + 0) (g + 0) (sym (add-zero n)) (sym (add-zero k)) (sym (add-zero g)) h

  on_start : (s : Shared) (r : ℕ) (f : Failure) (h : List Failed_event) (start : Option ℕ) →
      TicketsAre p s.drawn n k g →
      Adds p n k g (going_on q s r t f h start).shared.drawn (going_on q s r t f h start).told
  on_start s r f h None are = plain s.drawn are
  on_start s r f h (Some start) are =
      let asked = limits.drawing q.draws (is_late f) t r s.limit in
      let drawn = draw_at q.draws asked.0 t s.drawn in
      let drawing_is : Bool → Answer Stage Shared Moment =
      drawing q (record s { drawn = drawn.1; limit = asked.1 }) r t f h start in
      elim drawn.0 as (λ b. drawn.0 ≡ b → Adds p n k g (drawing_is b).shared.drawn (drawing_is b).told) [
        | true ↦ λ e. recounted p drawn.1 n (k + cond (has_draws q.draws) 1 0) (g + 1) (n + 0)
            (k + cond (has_draws q.draws) 1 0) (g + 1) (sym (add-zero n)) refl refl
            (granted_is p ok t by n k g s.drawn are q.draws asked.0 on e)
        | false ↦ λ e. plain drawn.1 (refused_is p ok t by n k g s.drawn are q.draws asked.0 on e)
      ] refl

  -- a request is counted, whether it is admitted or not
  on_arrival : (s : Shared) (b : Bool) → TicketsAre p s.drawn (n + 1) k g →
      Adds p n k g (arriving q s t b).shared.drawn (arriving q s t b).told
  on_arrival s true are = recounted p s.drawn (n + 1) k g (n + 1) (k + 0) (g + 0) refl (sym (add-zero k))
      (sym (add-zero g)) are
  on_arrival s false are = recounted p s.drawn (n + 1) k g (n + 1) (k + 0) (g + 0) refl (sym (add-zero k))
      (sym (add-zero g)) are

  step : (plan : Schedule) (s : Shared) (r : ℕ) (what : Stage) → TicketsAre p s.drawn n k g →
      Adds p n k g (playing q plan s r t what).shared.drawn (playing q plan s r t what).told
  step plan s r begins are =
      let asked = limits.admitting q.draws t r s.limit in
      on_arrival (with_request q t (record s { limit = asked.1 })) asked.0
      (request_is p ok t by n k g s.drawn are q.draws on)
  step plan s r (retries h) are = plain s.drawn are
  step plan s r succeeds are = plain s.drawn are
  step plan s r (fails f before) are =
      let words = next_four s.words in
      let h = with_failure before t words.0 (input_of f) in
      on_start (record s { words = words.1; limit = limits.failing q.draws t r s.limit }) r f h
      (start_of (answer plan h).decision) are

pub along : (p : Parameters) (plans : ℕ → Schedule) → AreDraws p.draws →
    (es : List (Event Stage)) (s last : Shared) (n k g : ℕ) →
    AreUntil p.until es → AreAnswered (played p plans) s es last → TicketsAre p s.drawn n k g →
    TicketsAre p last.drawn (n + count_by (λ (m : Moment). is_request m.what) (told_by (played p plans) s es))
    (k + count_by (λ (m : Moment). is_ticket m.what) (told_by (played p plans) s es))
    (g + count_by (λ (m : Moment). is_granted m.what) (told_by (played p plans) s es))
along p plans ok [] s last n k g by same are =
    subst (λ (x : Shared). TicketsAre p x.drawn (n + 0) (k + 0) (g + 0)) same
    (recounted p s.drawn n k g (n + 0) (k + 0) (g + 0) (sym (add-zero n)) (sym (add-zero k)) (sym (add-zero g)) are)
along p plans ok (e ∷ es) s last n k g by answered are =
    let u = population_of p e.request in
    let a = played p plans s e.request e.due in
    let ms = told_by (played p plans) a.shared es in
    let here = step p n k g ok e.due.at by.0 u (plans u) s e.request e.due.what are in
    let rest = along p plans ok es a.shared last (n + cond (is_request a.told.what) 1 0)
    (k + cond (is_ticket a.told.what) 1 0) (g + cond (is_granted a.told.what) 1 0) by.1 answered.1 here in
    let requests = sum_by-cons (λ (m : Moment). cond (is_request m.what) 1 0) a.told ms in
    let tickets = sum_by-cons (λ (m : Moment). cond (is_ticket m.what) 1 0) a.told ms in
    let granted = sum_by-cons (λ (m : Moment). cond (is_granted m.what) 1 0) a.told ms in
    recounted p last.drawn _ _ _ _ _ _ (omega arith) (omega arith) (omega arith) rest
