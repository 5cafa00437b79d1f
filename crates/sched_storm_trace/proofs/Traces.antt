-- One event more of a trace, and that two beginnings of one trace continue each other.
use Rattle.std.proofs.Common.{◌≡◌, ℕ, ◌≤◌, Bool, true, false, cond, eqb, eqb-true, eq-eqb, List, [], ◌∷◌, ◌++◌, Option}
use Rattle.std.proofs.Common.{Some, refl, sym, ◌∙◌, ap, subst, ◌⊎◌, inl, inr, arith}
use Rattle.std.proofs.lemmas.List.{append-nil}
use Rattle.std.proofs.lemmas.List.Elements.{filter-append}
use Rattle.std.proofs.lemmas.Bool.{false≢true}
use Rattle.std.specs.List.{filter}
use Rattle.sched_storm_trace.specs.Trace.{Due, Event, Answer, updated, is_of, Follow, NotAfter, IsFirst, Ascend, AreBy}
use Rattle.sched_storm_trace.specs.Trace.{AreAnswered, told_by, IsBeginning, Continues}

some_same : {X : Type 0} (a b : X) → Some a ≡ Some b → a ≡ b
some_same a b h = cc

-- ---- order

not_after_itself : (m r : ℕ) → NotAfter m r m r
not_after_itself m r = record { moment = omega arith; number = λ e. omega arith }

not_after_trans : (m r n q o s : ℕ) → NotAfter m r n q → NotAfter n q o s → NotAfter m r o s
not_after_trans m r n q o s h k =
    let a = h.moment in
    let b = k.moment in
    record {
      moment = omega arith;
      number = λ e.
          let first : m ≡ n = omega arith in
          let second : n ≡ o = omega arith in
          let c = h.number first in
          let d = k.number second in
          omega arith;
    }

module _ {T : Type 0} where
  -- an event after all of these is the last of them
  ascend_push : (es : List (Event T)) (e : Event T) → Ascend es → AreBy e.due.at e.request es → Ascend (es ++ e ∷ [])
  ascend_push [] e up by = (tt, tt)
  ascend_push (f ∷ fs) e up by = (first_push f fs e up.0 by.0, ascend_push fs e up.1 by.1)
    where
      first_push : (f : Event T) (fs : List (Event T)) (e : Event T) → IsFirst f fs →
          NotAfter f.due.at f.request e.due.at e.request →
          IsFirst f (fs ++ e ∷ [])
      first_push f [] e h k = (k, tt)
      first_push f (g ∷ gs) e h k = (h.0, first_push f gs e h.1 k)

  by_trans : (es : List (Event T)) (m r n q : ℕ) → NotAfter m r n q → AreBy m r es → AreBy n q es
  by_trans [] m r n q h by = tt
  by_trans (e ∷ es) m r n q h by = (not_after_trans e.due.at e.request m r n q by.0 h, by_trans es m r n q h by.1)

  by_push : (es : List (Event T)) (e : Event T) (m r : ℕ) → AreBy m r es → NotAfter e.due.at e.request m r →
      AreBy m r (es ++ e ∷ [])
  by_push [] e m r by h = (h, tt)
  by_push (f ∷ fs) e m r by h = (by.0, by_push fs e m r by.1 h)

  -- ---- one event more

  follow_push : (due : Option (Due T)) (es : List (Event T)) (e : Event T) → Follow due es (Some e.due) →
      Follow due (es ++ e ∷ []) e.next
  follow_push due [] e h = (h, refl)
  follow_push due (f ∷ fs) e h = (h.0, follow_push f.next fs e h.1)

  -- of the request of the event, and of any other
  each_push : (es : List (Event T)) (e : Event T) (r : ℕ) (first : Option (Due T)) (due : ℕ → Option (Due T)) →
      due e.request ≡ Some e.due → Follow first (filter (is_of r) es) (due r) → (b : Bool) → eqb e.request r ≡ b →
      Follow first (filter (is_of r) es ++ cond b (e ∷ []) []) (cond b e.next (due r))
  each_push es e r first due was h true s =
      let same : e.request ≡ r = eqb-true e.request r s in
      let at : due r ≡ Some e.due = subst (λ q. due q ≡ Some e.due) same was in
      follow_push first (filter (is_of r) es) e (subst (λ d. Follow first (filter (is_of r) es) d) at h)
  each_push es e r first due was h false s = rw append-nil h

  module _ {S M : Type 0} (answer : S → ℕ → Due T → Answer T S M) where
    answered_push : (s : S) (es : List (Event T)) (last : S) (e : Event T) → AreAnswered answer s es last →
        e.next ≡ (answer last e.request e.due).next →
        AreAnswered answer s (es ++ e ∷ []) (answer last e.request e.due).shared
    answered_push s [] last e h next = subst (λ t. AreAnswered answer t (e ∷ []) (answer last e.request e.due).shared)
        (sym h) (next, refl)
    answered_push s (f ∷ fs) last e h next = (h.0, answered_push (answer s f.request f.due).shared fs last e h.1 next)

    pub told_push : (s : S) (es : List (Event T)) (last : S) (e : Event T) → AreAnswered answer s es last →
        told_by answer s (es ++ e ∷ []) ≡ told_by answer s es ++ (answer last e.request e.due).told ∷ []
    told_push s [] last e h = ap (λ t. (answer t e.request e.due).told ∷ []) h
    told_push s (f ∷ fs) last e h = ap (λ ms. (answer s f.request f.due).told ∷ ms)
        (told_push (answer s f.request f.due).shared fs last e h.1)

    -- What is least due happens next, and what is due of its request then is not before it.
    pub one_more : (first : ℕ → Option (Due T)) (start : S) (es : List (Event T)) (due : ℕ → Option (Due T)) (last : S)
        (e : Event T) →
        IsBeginning answer first start es due last → due e.request ≡ Some e.due →
        e.next ≡ (answer last e.request e.due).next →
        ((r : ℕ) (d : Due T) → due r ≡ Some d → NotAfter e.due.at e.request d.at r) →
        ((d : Due T) → e.next ≡ Some d → e.due.at ≤ d.at) →
        IsBeginning answer first start (es ++ e ∷ []) (updated due e.request e.next)
        (answer last e.request e.due).shared
    one_more first start es due last e h was next least later = record {
      in_order = ascend_push es e h.in_order (h.none_after e.request e.due was);
      each_request = λ r. rw filter-append
          (each_push es e r (first r) due was (h.each_request r) (eqb e.request r) refl);
      answers = answered_push start es last e h.answers next;
      none_after = λ r d. none_after_more r d (eqb e.request r) refl;
    }
      where
        none_after_more : (r : ℕ) (d : Due T) (b : Bool) → eqb e.request r ≡ b → cond b e.next (due r) ≡ Some d →
            AreBy d.at r (es ++ e ∷ [])
        none_after_more r d true s at =
            let same : e.request ≡ r = eqb-true e.request r s in
            let on : e.due.at ≤ d.at = later d at in
            let here : NotAfter e.due.at e.request d.at r = record { moment = on; number = λ _. omega arith } in
            by_push es e d.at r (by_trans es e.due.at e.request d.at r here (h.none_after e.request e.due was)) here
        none_after_more r d false s at = by_push es e d.at r (h.none_after r d at) (least r d at)

    -- ---- one trace

    -- an event that is none after these is not after what is due of a request of theirs, or was and is
    least_of : (e : Event T) (r : ℕ) (d : Due T) (last : Option (Due T)) (g : Event T) (gs : List (Event T)) →
        NotAfter e.due.at e.request g.due.at g.request →
        (Follow (Some d) (filter (is_of r) gs) last → NotAfter e.due.at e.request d.at r) → (b : Bool) →
        eqb g.request r ≡ b →
        Follow (Some d) (cond b (g ∷ filter (is_of r) gs) (filter (is_of r) gs)) last →
        NotAfter e.due.at e.request d.at r
    least_of e r d last g gs before rest true s f =
        let same : g.request ≡ r = eqb-true g.request r s in
        let due_is : d ≡ g.due = some_same d g.due f.0 in
        subst (λ q. NotAfter e.due.at e.request d.at q) same
        (subst (λ x. NotAfter e.due.at e.request x.at g.request) (sym due_is) before)
    least_of e r d last g gs before rest false s f = rest f

    least_in : (e : Event T) (r : ℕ) (d : Due T) (last : Option (Due T)) (gs : List (Event T)) → IsFirst e gs →
        (last ≡ Some d → NotAfter e.due.at e.request d.at r) → Follow (Some d) (filter (is_of r) gs) last →
        NotAfter e.due.at e.request d.at r
    least_in e r d last [] before end f = end (sym f)
    least_in e r d last (g ∷ gs) before end f =
        least_of e r d last g gs before.0 (least_in e r d last gs before.1 end) (eqb g.request r) refl f

    -- the first event of some is not after what is due of any request
    pub head_is_least : (first : ℕ → Option (Due T)) (s : S) (e : Event T) (es : List (Event T))
        (due : ℕ → Option (Due T)) (last : S) →
        IsBeginning answer first s (e ∷ es) due last → (r : ℕ) (d : Due T) → first r ≡ Some d →
        NotAfter e.due.at e.request d.at r
    head_is_least first s e es due last h r d at =
        least_in e r d (due r) (e ∷ es) (not_after_itself e.due.at e.request, h.in_order.0)
        (λ q. (h.none_after r d q).0)
        (subst (λ o. Follow o (filter (is_of r) (e ∷ es)) (due r)) at (h.each_request r))

    -- it is what was due of its request
    head_of : (r : ℕ) (first : Option (Due T)) (e : Event T) (es : List (Event T)) (last : Option (Due T)) →
        (b : Bool) → b ≡ true →
        Follow first (cond b (e ∷ filter (is_of r) es) (filter (is_of r) es)) last → first ≡ Some e.due
    head_of r first e es last true s h = h.0
    head_of r first e es last false s h = absurd (false≢true s)

    pub head_is_due : (first : ℕ → Option (Due T)) (s : S) (e : Event T) (es : List (Event T))
        (due : ℕ → Option (Due T)) (last : S) →
        IsBeginning answer first s (e ∷ es) due last → first e.request ≡ Some e.due
    head_is_due first s e es due last h =
        head_of e.request (first e.request) e es (due e.request) (eqb e.request e.request)
        (eq-eqb e.request e.request refl) (h.each_request e.request)

    follow_tail : (r : ℕ) (first : Option (Due T)) (e : Event T) (es : List (Event T)) (last : Option (Due T)) →
        (b : Bool) →
        Follow first (cond b (e ∷ filter (is_of r) es) (filter (is_of r) es)) last →
        Follow (cond b e.next first) (filter (is_of r) es) last
    follow_tail r first e es last true h = h.1
    follow_tail r first e es last false h = h

    tail_begins : (first : ℕ → Option (Due T)) (s : S) (e : Event T) (es : List (Event T)) (due : ℕ → Option (Due T))
        (last : S) →
        IsBeginning answer first s (e ∷ es) due last →
        IsBeginning answer (updated first e.request e.next) (answer s e.request e.due).shared es due last
    tail_begins first s e es due last h = record {
      in_order = h.in_order.1;
      each_request = λ r. follow_tail r (first r) e es (due r) (eqb e.request r) (h.each_request r);
      answers = h.answers.1;
      none_after = λ r d q. (h.none_after r d q).1;
    }

    same_heads : (first : ℕ → Option (Due T)) (s : S) (e f : Event T) (es fs : List (Event T))
        (due later : ℕ → Option (Due T)) (last end : S) →
        IsBeginning answer first s (e ∷ es) due last → IsBeginning answer first s (f ∷ fs) later end → f ≡ e
    same_heads first s e f es fs due later last end h k =
        let at_e = head_is_due first s e es due last h in
        let at_f = head_is_due first s f fs later end k in
        let one = head_is_least first s e es due last h f.request f.due at_f in
        let other = head_is_least first s f fs later end k e.request e.due at_e in
        let below = one.moment in
        let above = other.moment in
        let moment : e.due.at ≡ f.due.at = omega arith in
        let low = one.number moment in
        let high = other.number (sym moment) in
        let request : f.request ≡ e.request = omega arith in
        let due_is : f.due ≡ e.due = some_same f.due e.due (sym at_f ∙ (ap first request ∙ at_e)) in
        let answers : (answer s f.request f.due).next ≡ (answer s e.request e.due).next = λ i.
        (answer s (request i) (due_is i)).next in
        let next : f.next ≡ e.next = k.answers.0 ∙ (answers ∙ sym h.answers.0) in
        λ i. record { request = request i; due = due_is i; next = next i }

    from_here : (first now : ℕ → Option (Due T)) (s t : S) (es : List (Event T)) (due : ℕ → Option (Due T)) (last : S) →
        ((r : ℕ) → first r ≡ now r) → s ≡ t → IsBeginning answer first s es due last →
        IsBeginning answer now t es due last
    from_here first now s t es due last same shared h = record {
      in_order = h.in_order;
      each_request = λ r. subst (λ o. Follow o (filter (is_of r) es) (due r)) (same r) (h.each_request r);
      answers = subst (λ x. AreAnswered answer x es last) shared h.answers;
      none_after = h.none_after;
    }

    longer_by : (e f : Event T) (es fs : List (Event T)) (due later : ℕ → Option (Due T)) (last end : S) → f ≡ e →
        Continues answer due last es fs later end → Continues answer due last (e ∷ es) (f ∷ fs) later end
    longer_by e f es fs due later last end same c = record {
      rest = c.rest;
      are = λ i. same i ∷ c.are i;
      begins = c.begins;
    }

    -- of two beginnings of one trace one continues the other
    pub one_continues : (es fs : List (Event T)) (first : ℕ → Option (Due T)) (s : S) (due later : ℕ → Option (Due T))
        (last end : S) →
        IsBeginning answer first s es due last → IsBeginning answer first s fs later end →
        Continues answer due last es fs later end ⊎ Continues answer later end fs es due last
    one_continues [] fs first s due later last end h k =
        inl (record {
          rest = fs;
          are = refl;
          begins = from_here first due s last fs later end h.each_request h.answers
              k;
        })
    one_continues (e ∷ es) [] first s due later last end h k =
        inr (record {
          rest = e ∷ es;
          are = refl;
          begins = from_here first later s end (e ∷ es) due last k.each_request
              k.answers h;
        })
    one_continues (e ∷ es) (f ∷ fs) first s due later last end h k =
        let same = same_heads first s e f es fs due later last end h k in
        let moved : IsBeginning answer first s (e ∷ fs) later end = subst
        (λ g. IsBeginning answer first s (g ∷ fs) later end) same k in
        let both = one_continues es fs (updated first e.request e.next) (answer s e.request e.due).shared due later
        last end
        (tail_begins first s e es due last h) (tail_begins first s e fs later end moved) in
        elim both [
          | inl c ↦ inl (longer_by e f es fs due later last end same c)
          | inr c ↦ inr (longer_by f e fs es later due end last (sym same) c)
        ]
