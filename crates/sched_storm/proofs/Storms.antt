-- There is one storm of plans and of parameters.
use Rattle.std.proofs.Common.{◌≡◌, ℕ, ◌≤◌, Bool, true, false, cond, List, [], ◌∷◌, ◌++◌, Option, Some, None}
use Rattle.std.proofs.Common.{IsTrue, refl, sym, ◌∙◌, ap, subst, inl, inr, arith}
use Rattle.std.proofs.lemmas.Bool.{false≢true}
use Rattle.std.proofs.lemmas.List.{append-nil}
use Rattle.std.proofs.lemmas.List.Sums.{sum_by-append, sum_by-cons}
use Rattle.std.specs.Prelude.{count_by}
use Rattle.sched_plan.specs.Schedule.{Schedule}
use Rattle.sched_storm_trace.specs.Trace.{Due, Event, AreAnswered, IsBeginning, told_by}
use Rattle.sched_storm_trace.proofs.Traces.{one_continues, head_is_due, head_is_least}
use Rattle.sched_storm_report.specs.declared.report.Report.{Report}
use Rattle.sched_storm_report.specs.Moments.{is_call}
use Rattle.sched_storm_report.specs.declared.moments.Moment.{Moment}
use Rattle.sched_storm.specs.Plays.{Stage, Shared, start_at, first, played}
use Rattle.sched_storm.specs.Storms.{calls_of, EndsSo, IsStorm, IsReportOf}
use Rattle.sched_storm.specs.declared.parameters.Parameters.{Parameters}

some_same : {X : Type 0} (a b : X) → Some a ≡ Some b → a ≡ b
some_same a b h = cc

none_some : {X Y : Type 0} (a : X) → None ≡ Some a → Y
none_some a h = absurd (not_some a h)
  where
    not_some : {X : Type 0} (a : X) → None ≡ Some a → ⊥
    not_some a h = cc

-- how many calls a cut storm and any other has at most
calls_most : (arrivals : List ℕ) (p : Parameters) (plans : ℕ → Schedule) (cut : Bool) (es : List (Event Stage))
    (due : ℕ → Option (Due Stage))
    (last : Shared) → EndsSo arrivals p plans cut es due last → calls_of arrivals p plans es ≤ p.calls
calls_most arrivals p plans true es due last h = let all = h.0 in omega arith
calls_most arrivals p plans false es due last h = h.0

is_one : (b : Bool) → IsTrue b → ◌≡◌ {A = ℕ} (cond b 1 0) 1
is_one true h = refl
is_one false h = absurd (false≢true h)

-- what is told of events that continue others
told_on : (p : Parameters) (plans : ℕ → Schedule) (s : Shared) (es fs : List (Event Stage)) (last : Shared) →
    AreAnswered (played p plans) s es last →
    told_by (played p plans) s (es ++ fs) ≡ told_by (played p plans) s es ++ told_by (played p plans) last fs
told_on p plans s [] fs last h = ap (λ x. told_by (played p plans) x fs) h
told_on p plans s (e ∷ es) fs last h =
    let a = played p plans s e.request e.due in ap (λ ms. a.told ∷ ms) (told_on p plans a.shared es fs last h.1)

module _ (arrivals : List ℕ) (p : Parameters) (plans : ℕ → Schedule) where
  -- the same events, by what is due after them
  same_end : (a b : Bool) (es : List (Event Stage)) (due later : ℕ → Option (Due Stage)) (last end : Shared) →
      ((r : ℕ) → due r ≡ later r) →
      EndsSo arrivals p plans a es due last → EndsSo arrivals p plans b es later end → a ≡ b
  same_end true true es due later last end same h k = refl
  same_end false false es due later last end same h k = refl
  same_end true false es due later last end same h k = none_some h.1.call
      (sym (k.1 h.1.request) ∙ (sym (same h.1.request) ∙ h.1.is_due))
  same_end false true es due later last end same h k = none_some k.1.call
      (sym (h.1 k.1.request) ∙ (same k.1.request ∙ k.1.is_due))

  -- no event comes after the end
  none_more : (a b : Bool) (es gs : List (Event Stage)) (g : Event Stage) (due later : ℕ → Option (Due Stage))
      (last end : Shared) → AreAnswered (played p plans) (start_at arrivals p) es last →
      IsBeginning (played p plans) due last (g ∷ gs) later end → EndsSo arrivals p plans a es due last →
      calls_of arrivals p plans (es ++ g ∷ gs) ≤ p.calls →
      ⊥
  none_more false b es gs g due later last end answered c h few =
      none_some g.due (sym (h.1 g.request) ∙ head_is_due (played p plans) due last g gs later end c)
  none_more true b es gs g due later last end answered c h few =
      let next = h.1 in
      let due_is = head_is_due (played p plans) due last g gs later end c in
      let before = head_is_least (played p plans) due last g gs later end c next.request next.call next.is_due in
      let after = next.least g.request g.due due_is in
      let low = before.moment in
      let high = after.moment in
      let moment : g.due.at ≡ next.call.at = omega arith in
      let under = before.number moment in
      let over = after.number (sym moment) in
      let request : next.request ≡ g.request = omega arith in
      let call : next.call ≡ g.due = some_same next.call g.due (sym next.is_due ∙ (ap due request ∙ due_is)) in
      let a = played p plans last g.request g.due in
      let is : IsTrue (is_call a.told.what) =
      subst (λ r. IsTrue (is_call (played p plans last r g.due).told.what)) request
      (subst (λ (d : Due Stage). IsTrue (is_call (played p plans last next.request d).told.what)) call next.calls) in
      let one = is_one (is_call a.told.what) is in
      let ms : List Moment = told_by (played p plans) (start_at arrivals p) es in
      let rest : List Moment = told_by (played p plans) a.shared gs in
      let on = ap (λ ms. count_by (λ (m : Moment). is_call m.what) ms)
      (told_on p plans (start_at arrivals p) es (g ∷ gs) last answered) in
      let all = sum_by-append (λ (m : Moment). cond (is_call m.what) 1 0) ms (a.told ∷ rest) in
      let more = sum_by-cons (λ (m : Moment). cond (is_call m.what) 1 0) a.told rest in
      let full = h.0 in
      absurd (omega arith)

  one_end : (a b : Bool) (es fs rest : List (Event Stage)) (due later : ℕ → Option (Due Stage)) (last end : Shared) →
      fs ≡ es ++ rest → AreAnswered (played p plans) (start_at arrivals p) es last →
      IsBeginning (played p plans) due last rest later end → EndsSo arrivals p plans a es due last →
      EndsSo arrivals p plans b fs later end →
      (a ≡ b) × (es ≡ fs)
  one_end a b es fs [] due later last end are answered c h k =
      let same : fs ≡ es = are ∙ append-nil es in (
        same_end a b es due later last end c.each_request h (subst
            (λ xs. EndsSo arrivals p plans b xs later end) same k),
        sym same,
      )
  one_end a b es fs (g ∷ gs) due later last end are answered c h k =
      absurd (none_more a b es gs g due later last end answered c h
      (subst (λ xs. calls_of arrivals p plans xs ≤ p.calls) are (calls_most arrivals p plans b fs later end k)))

  pub one_storm : (a b : Bool) (es fs : List (Event Stage)) → IsStorm arrivals p plans a es →
      IsStorm arrivals p plans b fs →
      (a ≡ b) × (es ≡ fs)
  one_storm a b es fs h k =
      let both = one_continues (played p plans) es fs (first arrivals p) (start_at arrivals p)
      h.due k.due h.last k.last h.plays k.plays in
      elim both [
        | inl c ↦ one_end a b es fs c.rest h.due k.due h.last k.last c.are h.plays.answers c.begins h.ends k.ends
        | inr c ↦ (let e =
            one_end b a fs es c.rest k.due h.due k.last h.last c.are k.plays.answers c.begins k.ends h.ends in
            (sym e.0, sym e.1))
      ]

  -- the report of one storm is that of all
  pub of_all : (of : Option ℕ) (a : Bool) (es : List (Event Stage)) (r : Report) → IsStorm arrivals p plans a es →
      IsReportOf arrivals p plans of a es r →
      (b : Bool) (fs : List (Event Stage)) → IsStorm arrivals p plans b fs → IsReportOf arrivals p plans of b fs r
  of_all of a es r h told b fs k =
      let one = one_storm a b es fs h k in
      subst (λ x. IsReportOf arrivals p plans of x fs r) one.0 (subst
      (λ xs. IsReportOf arrivals p plans of a xs r) one.1 told)
