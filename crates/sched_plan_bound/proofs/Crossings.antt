-- When a schedule that goes on so often at most is first done.
use Rattle.std.proofs.Common.{◌≡◌, ℕ, ◌+◌, ◌<◌, ◌≤◌, List, [], ◌∷◌, ◌++◌, length, Bool, true, false, cond, ltb, Option}
use Rattle.std.proofs.Common.{Some, None, refl, sym, ap, subst, ◌∙◌, length-append, arith}
use Rattle.std.proofs.lemmas.Bool.{ltb-true, ltb-false}
use Rattle.std.proofs.lemmas.Option.{none-some, cond_some}
use Rattle.sched_time.specs.declared.numbers.TheConstants.{FAR}
use Rattle.sched_time.specs.declared.starts.Decision.TheVariants.{Done}
use Rattle.sched_plan.specs.Answer.{crossing, is_done}
use Rattle.sched_plan.specs.Outputs.{fed}
use Rattle.sched_plan.specs.declared.history.Event.{Event}
use Rattle.sched_plan.specs.declared.history.Answer.{Answer}
use Rattle.sched_plan.proofs.PrefixLaws.{crossing-kept, crossing-push}
use Rattle.sched_plan.proofs.OutputLaws.{fed-push}

-- a schedule with these answers is done at each event after so many
abbrev pub Ends : (List Event → Answer) → ℕ → Type 0
Ends f most = (h : List Event) → most < length h → length h ≤ FAR → (f h).decision ≡ Done

-- what holds of the empty history and of each that ends with an event, where it holds before that, holds of all
pub by_events : (P : List Event → Type 0) → P [] → ((g : List Event) (e : Event) → P g → P (g ++ e ∷ []))
    → (h : List Event) → P h
by_events P none more [] = none
by_events P none more (c ∷ h) = by_events (λ g. P (c ∷ g)) (more [] c none) (λ g e before. more (c ∷ g) e before) h

length-push : (h : List Event) (e : Event) → length (h ++ e ∷ []) ≡ length h + 1
length-push h e = length-append h (e ∷ [])

pub fed-length : (f : List Event → Answer) (h : List Event) → length (fed f h) ≡ length h
fed-length f h =
    by_events (λ g. length (fed f g) ≡ length g) refl
    (λ g e before.
    ap length (fed-push f g e) ∙ length-push (fed f g) _ ∙ ap (λ n. n + 1) before ∙ sym (length-push g e))
    h

module _ (f : List Event → Answer) where
  -- one that was never done is not done at the last event
  never_done : (o : Option (List Event)) (g : List Event) (e : Event) → crossing f g ≡ o
      → crossing f (g ++ e ∷ []) ≡ None →
      is_done (f (g ++ e ∷ [])).decision ≡ true → ⊥
  never_done (Some p) g e before none done = none-some p (sym none ∙ crossing-kept f g p e before)
  never_done None g e before none done =
      none-some (g ++ e ∷ []) (sym none ∙ crossing-push f g e before ∙ ap (λ b. cond b (Some (g ++ e ∷ [])) None) done)

  open_at_end : (h : List Event) → 0 < length h → crossing f h ≡ None → is_done (f h).decision ≡ true → ⊥
  open_at_end h =
      by_events (λ g. 0 < length g → crossing f g ≡ None → is_done (f g).decision ≡ true → ⊥)
      (λ some none done. omega (arith, some))
      (λ g e before some none done. never_done (crossing f g) g e refl none done) h

  module _ (most : ℕ) (ends : Ends f most) where
    decided : (n : ℕ) (b : Bool) → ltb most n ≡ b → (most < n → ⊥) → ltb most n ≡ false
    decided n true is few = absurd (few (ltb-true most n is))
    decided n false is few = is

    not_past : (g : List Event) → (most < length g → ⊥) → ltb most (length g) ≡ false
    not_past g few = decided (length g) (ltb most (length g)) refl few

    -- the history before the event at which it is first done is no longer than that
    first_done : (o : Option (List Event)) (g p : List Event) (e : Event) → crossing f g ≡ o
        → length (g ++ e ∷ []) ≤ FAR →
        ((q : List Event) → length g ≤ FAR → crossing f g ≡ Some q → length q ≤ most + 1) →
        crossing f (g ++ e ∷ []) ≡ Some p → length p ≤ most + 1
    first_done (Some q) g p e at far before crossed =
        let short : length g ≤ FAR = omega (arith, far, length-push g e) in
        let same : q ≡ p = (cond_some true q p (sym (crossing-kept f g q e at) ∙ crossed)).1 in
        subst (λ x. length x ≤ most + 1) same (before q short at)
    first_done None g p e at far before crossed =
        let short : length g ≤ FAR = omega (arith, far, length-push g e) in
        let same : g ++ e ∷ [] ≡ p =
        (cond_some (is_done (f (g ++ e ∷ [])).decision) (g ++ e ∷ []) p (sym (crossing-push f g e at) ∙ crossed)).1 in
        let few : length g ≤ most = ltb-false most (length g)
        (not_past g (λ past. open_at_end g (omega (arith, past)) at (ap is_done (ends g past short)))) in
        subst (λ x. length x ≤ most + 1) same (let long = length-push g e in omega (arith, few, long))

    pub crossing_early : (h p : List Event) → length h ≤ FAR → crossing f h ≡ Some p → length p ≤ most + 1
    crossing_early h =
        by_events (λ g. (p : List Event) → length g ≤ FAR → crossing f g ≡ Some p → length p ≤ most + 1)
        (λ p far crossed. absurd (none-some p crossed))
        (λ g e before p far crossed. first_done (crossing f g) g p e refl far before crossed) h
