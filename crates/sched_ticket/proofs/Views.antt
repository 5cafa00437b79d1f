-- The laws of all views, from the rule.
use Rattle.std.proofs.Common.{◌≡◌, ◌≢◌, ℕ, zero, suc, ◌+◌, ◌<◌, ◌≤◌, List, [], ◌∷◌, length, min, sym, refl, ap, ◌∙◌}
use Rattle.std.proofs.Common.{subst, arith, lt_of_not-le}
use mathlib.Core.Logic.{dite}
use mathlib.Core.Option.{some, some-injective, some-ne-none}
use native.Mathlib.Decide.{dec_le}
use lib.ListN.{get_elem?}
use Rattle.sched_ticket.specs.Lists.{total, Each, is, times, once_below}
use Rattle.sched_ticket.specs.Rule.{used_up, number_weight, weights, IsMarked, IsRefusal, Fits}
use Rattle.sched_ticket.specs.Laws.{tickets_of, NumbersStandOnce, DrawsAreCounted, NoneIsUsedUp, EachRefusalIsHigh}
use Rattle.sched_ticket.specs.Laws.{RefusalsAreJust, TicketsStandOnce, RefusalsAreLate, TicketsStayBelow}
use Rattle.sched_ticket.specs.Laws.{EachTicketIsBelow, DrawsStayBelow, FloorsStayBelow, LimitIsRaised, PassesWereSplit}
use Rattle.sched_ticket.specs.Laws.{PartsAreKept, SpentHasNothing, PassesAreCounted, EachIsRefusedOnce, WordsStaySmall}
use Rattle.sched_ticket.specs.Laws.{SplitsAreRefusedLate, SoleIsAlone, SharedHasAnother}
use Rattle.sched_ticket.specs.declared.view.Terms.{Terms}
use Rattle.sched_ticket.specs.declared.view.Refusal.{Refusal}
use Rattle.sched_ticket.specs.declared.view.Mark.{Mark}
use Rattle.sched_ticket.specs.declared.view.View.{View}
use Rattle.sched_ticket.proofs.Sums.{term_le, terms_le, total-plus, below-one, below-is, once_below-yes, once_below-no}
use Rattle.sched_ticket.proofs.Sums.{times-none, from, from-yes, below-from}
use Rattle.sched_ticket.proofs.Totals.{number_weight-one, tickets_below, tickets_le, drawn_le, drawn_few, made_le}
use Rattle.sched_ticket.proofs.Totals.{made_few}
use Rattle.sched_ticket.proofs.Ways.{used_up-counted, used_up-Each, none-by_parts}
use Rattle.sched_ticket.proofs.Whole.{is_spent, other_refusals, first_late}

-- what is equal at each element has equal sums
total-same : {A : Type 0} (f g : A → ℕ) (l : List A) → ((i : ℕ) (u : A) → get_elem? l i ≡ some u → f u ≡ g u)
    → total f l ≡ total g l
total-same f g [] h = refl
total-same f g (x ∷ xs) h = omega (arith, h 0 x refl, total-same f g xs (λ i. h (suc i)))

-- where the sum is more than one element's part, another has some
another : {A : Type 0} (g : A → ℕ) (l : List A) (j : ℕ) (v : A) → get_elem? l j ≡ some v → g v < total g l
    → (i : ℕ) × (u : A) × (i ≢ j) × (get_elem? l i ≡ some u) × (0 < g u)
another g [] j v e more = absurd (some-ne-none v (sym e))
another {A} g (x ∷ xs) zero v e more =
    let there : (i : ℕ) × (u : A) × (get_elem? xs i ≡ some u) × (0 < g u) =
    some_part xs (omega (arith, ap g (some-injective x v e))) in
    (suc there.0, there.1, (λ h. omega arith), there.2, there.3)
  where
    some_part : (l : List A) → 0 < total g l → (i : ℕ) × (u : A) × (get_elem? l i ≡ some u) × (0 < g u)
    some_part [] h = absurd (omega arith)
    some_part (y ∷ ys) h = dite (dec_le 1 (g y)) (λ here. (0, y, refl, here))
        (λ none. let there = some_part ys (omega arith) in (suc there.0, there.1, there.2, there.3))
another {A} g (x ∷ xs) (suc j) v e more = dite (dec_le 1 (g x))
    (λ here. (0, x, (λ h. omega arith), refl, here))
    (λ none. let there = another g xs j v e (omega arith) in
    (suc there.0, there.1, (λ h. there.2 (omega arith)), there.3, there.4))

pub numbers_stand_once : NumbersStandOnce
numbers_stand_once k s kept x = kept.orderly.numbers (is x) ∙ below-is x kept.drawn

pub draws_are_counted : DrawsAreCounted
draws_are_counted k s kept =
    let each : total (number_weight (λ _. 1)) s.views
    ≡ total (λ (v : View). length v.tickets + length (used_up v)) s.views =
    total-same (number_weight (λ _. 1)) (λ (v : View). length v.tickets + length (used_up v)) s.views
    (λ i u at. number_weight-one u) in
    omega (
      arith,
      kept.orderly.numbers (λ _. 1),
      below-one kept.drawn,
      total-plus (λ (v : View). length v.tickets) (λ (v : View). length (used_up v)) s.views,
    )

pub none_is_used_up : NoneIsUsedUp
none_is_used_up k s kept by =
    let each : total (number_weight (λ _. 1)) s.views ≡ tickets_of s.views =
    total-same (number_weight (λ _. 1)) (λ (v : View). length v.tickets) s.views
    (λ i u at. omega (
      arith,
      number_weight-one u,
      ap length (none-by_parts k kept.drawn kept.made kept.limit (weights s.views) u (kept.orderly.each i u at) by),
    )) in
    omega (arith, kept.orderly.numbers (λ _. 1), below-one kept.drawn)

pub tickets_stand_once : TicketsStandOnce
tickets_stand_once k s kept keeps x =
    let o = kept.orderly in
    let L : ℕ = kept.limit in
    let first : L ≡ k.limit = o.fixed keeps in
    let refused : View → ℕ = λ v. total (λ (r : Refusal). is x r.number) (used_up v) in
    let drawn : View → ℕ = λ v. times x v.tickets in
    let all : total drawn s.views + total refused s.views ≡ once_below x kept.drawn =
    sym (total-plus drawn refused s.views) ∙ (o.numbers (is x) ∙ below-is x kept.drawn) in
    dite (dec_le L x)
    (λ high.
    let none : total drawn s.views ≡ total (λ (v : View). 0) s.views =
    total-same drawn (λ (v : View). 0) s.views
    (λ i u at.
    times-none x L u.tickets high (tickets_below k kept.drawn kept.made L (weights s.views) u (o.each i u at))) in
    none ∙ zeros s.views ∙ sym (once_below-no x (min kept.drawn k.limit) (omega arith)))
    (λ not.
    let low : x < L = lt_of_not-le not in
    let none : total refused s.views ≡ total (λ (v : View). 0) s.views =
    total-same refused (λ (v : View). 0) s.views
    (λ i u at. other_refusals k L first x (used_up u) low (used_up-Each (IsRefusal k L) u (o.each i u at).refusals)) in
    let none' : total refused s.views ≡ 0 = none ∙ zeros s.views in
    dite (dec_le kept.drawn x)
    (λ past. omega (arith, once_below-no x kept.drawn past, once_below-no x (min kept.drawn k.limit) (omega arith)))
    (λ near. let early : x < kept.drawn = lt_of_not-le near in
    omega (arith, once_below-yes x kept.drawn early, once_below-yes x (min kept.drawn k.limit) (omega arith))))
  where
    zeros : (l : List View) → total (λ (v : View). 0) l ≡ 0
    zeros [] = refl
    zeros (v ∷ vs) = omega (arith, zeros vs)

late_sum : (k : Terms) (limit : ℕ) (xs : List Refusal) → 0 < length xs → Each (IsRefusal k limit) xs
    → 0 < total (λ (r : Refusal). from k.limit r.number) xs
late_sum k limit [] some-there h = absurd (omega arith)
late_sum k limit (r ∷ rs) some-there h = omega (arith, from-yes k.limit r.number (omega (arith, h.0.0, h.0.1)))

pub refusals_are_late : RefusalsAreLate
refusals_are_late k s kept by v at keeps some-refused =
    let o = kept.orderly in
    let f = o.each by v at in (
      first_late k kept.limit kept.drawn v.refusals some-refused f.refusals f.late,
      λ way.
          let live : 0 < v.weight =
          dite (dec_le 1 v.weight) (λ h. h) (λ not. absurd (omega (arith, ap length (f.spent (omega arith)).1))) in
          let all : used_up v ≡ v.refusals = used_up-counted v (ap (λ (t : Terms). t.by_parts) (f.live live).0 ∙ way) in
          let here : 0 < number_weight (from k.limit) v =
          omega (
            arith,
            late_sum k kept.limit v.refusals some-refused f.refusals,
            ap (total (λ (r : Refusal). from k.limit r.number)) all,
          ) in
          lt_of_not-le
          (λ (le : kept.drawn ≤ k.limit). omega (
            arith,
            term_le (number_weight (from k.limit)) s.views by v at,
            o.numbers (from k.limit),
            below-from k.limit kept.drawn le,
          )),
    )

pub refusals_are_just : RefusalsAreJust
refusals_are_just k s kept by v at =
    let f = kept.orderly.each by v at in just k kept.limit kept.drawn v.refusals f.refusals f.late
  where
    just : (k : Terms) (limit drawn : ℕ) (xs : List Refusal) → Each (IsRefusal k limit) xs → Each
        (λ (r : Refusal). r.number ≤ drawn) xs → Each (λ (r : Refusal). (r.floor ≤ r.number) × (r.number ≤ drawn)) xs
    just k limit drawn [] h late = tt
    just k limit drawn (r ∷ rs) h late = ((h.0.1, late.0), just k limit drawn rs h.1 late.1)

pub draws_stay_below : DrawsStayBelow
draws_stay_below k s kept = drawn_few k kept.drawn kept.made kept.limit s.views kept.orderly

pub tickets_stay_below : TicketsStayBelow
tickets_stay_below k s kept = tickets_le k kept.drawn kept.made kept.limit s.views kept.orderly

pub each_ticket_is_below : EachTicketIsBelow
each_ticket_is_below k s kept by v at =
    tickets_below k kept.drawn kept.made kept.limit (weights s.views) v (kept.orderly.each by v at)

pub words_stay_small : WordsStaySmall
words_stay_small k s kept =
    let o = kept.orderly in (
      drawn_le k kept.drawn kept.made kept.limit s.views o,
      o.small,
      made_le k kept.drawn kept.made kept.limit s.views o,
      made_few k kept.drawn kept.made kept.limit s.views o,
    )

pub splits_are_refused_late : SplitsAreRefusedLate
splits_are_refused_late k s kept by v at = (kept.orderly.each by v at).too_many_made

pub sole_is_alone : SoleIsAlone
sole_is_alone k s kept by v at sole other u apart there =
    let f : Fits k kept.drawn kept.made kept.limit (weights s.views) u = kept.orderly.each other u there in
    let all : weights s.views ≡ v.weight =
    subst (λ (m : Mark). IsMarked (weights s.views) m v.weight) sole (kept.orderly.each by v at).mark in
    let light : u.weight ≡ 0 = omega (arith, terms_le (λ (x : View). x.weight) s.views by other v u apart at there) in
    is_spent k kept.drawn kept.made kept.limit (weights s.views) u f light

pub shared_has_another : SharedHasAnother
shared_has_another k s kept by v at shared =
    another (λ (x : View). x.weight) s.views by v at
    (subst (λ (m : Mark). IsMarked (weights s.views) m v.weight) shared (kept.orderly.each by v at).mark)

pub each_refusal_is_high : EachRefusalIsHigh
each_refusal_is_high k s kept by v at = (kept.orderly.each by v at).refusals

pub floors_stay_below : FloorsStayBelow
floors_stay_below k s kept by v at = (kept.orderly.each by v at).floor

pub limit_is_raised : LimitIsRaised
limit_is_raised k s kept = kept.orderly.limit_is

pub passes_were_split : PassesWereSplit
passes_were_split k s kept = λ by. (kept.orderly.passes by).0

pub parts_are_kept : PartsAreKept
parts_are_kept k s kept = kept.orderly.parts

pub spent_has_nothing : SpentHasNothing
spent_has_nothing k s kept by v at =
    is_spent k kept.drawn kept.made kept.limit (weights s.views) v (kept.orderly.each by v at)

pub passes_are_counted : PassesAreCounted
passes_are_counted k s kept = (kept.orderly.counted, λ by. (kept.orderly.passes by).1)

pub each_is_refused_once : EachIsRefusedOnce
each_is_refused_once k s kept by v at = let f = kept.orderly.each by v at in (f.few_refusals, f.few_refused_splits)
