-- What a split gives, and which refused numbers are used up.
use Rattle.std.proofs.Common.{◌≡◌, ℕ, ◌<◌, Bool, true, false, List, [], ◌++◌, cond, sym, refl, ap, ◌∙◌, arith}
use Rattle.std.proofs.Common.{lt_of_not-le, lt-ltb, le-ltb}
use mathlib.Core.Logic.{dite}
use native.Mathlib.Decide.{dec_le}
use Rattle.sched_ticket.specs.Lists.{Each}
use Rattle.sched_ticket.specs.Parts.{part}
use Rattle.sched_ticket.specs.View.{given, joined_view}
use Rattle.sched_ticket.specs.Rule.{used_up, Fits}
use Rattle.sched_ticket.specs.declared.view.Terms.{Terms}
use Rattle.sched_ticket.specs.declared.view.Refusal.{Refusal}
use Rattle.sched_ticket.specs.declared.view.View.{View}

-- a split gives something and keeps something
pub part-some : (n : ℕ) → 1 < n → (0 < part n) × (part n < n)
part-some n more = dite (dec_le n 1048576)
    (λ few. let one : part n ≡ 1 = ap (λ b. cond b 1048576 1) (le-ltb 1048576 n few) in (omega arith, omega arith))
    (λ not. let many : part n ≡ 1048576 = ap (λ b. cond b 1048576 1) (lt-ltb 1048576 n (lt_of_not-le not)) in
    (omega arith, omega (arith, lt_of_not-le not)))

-- by parts or not
pub either_way : {X : Type 0} (b : Bool) → (b ≡ true → X) → (b ≡ false → X) → X
either_way true f g = f refl
either_way false f g = g refl

pub given-parts : (v : View) → v.terms.by_parts ≡ true → given v ≡ part v.weight
given-parts v h = ap (λ b. cond b (part v.weight) 1) h

pub given-one : (v : View) → v.terms.by_parts ≡ false → given v ≡ 1
given-one v h = ap (λ b. cond b (part v.weight) 1) h

cond-same : {A : Type 0} (b : Bool) (x : A) → cond b x x ≡ x
cond-same true x = refl
cond-same false x = refl

cond-append : (b : Bool) (xs ys : List Refusal) → cond b [] (xs ++ ys) ≡ cond b [] xs ++ cond b [] ys
cond-append true xs ys = refl
cond-append false xs ys = refl

cond-Each : (P : Refusal → Type 0) (b : Bool) (xs : List Refusal) → Each P xs → Each P (cond b [] xs)
cond-Each P true xs h = tt
cond-Each P false xs h = h

pub used_up-parts : (v : View) → v.terms.by_parts ≡ true → used_up v ≡ []
used_up-parts v h = ap (λ b. cond b [] v.refusals) h

pub used_up-counted : (v : View) → v.terms.by_parts ≡ false → used_up v ≡ v.refusals
used_up-counted v h = ap (λ b. cond b [] v.refusals) h

-- where there is no refusal none is used up
pub used_up-none : (v : View) → v.refusals ≡ [] → used_up v ≡ []
used_up-none v none = ap (cond v.terms.by_parts []) none ∙ cond-same v.terms.by_parts []

pub used_up-Each : (P : Refusal → Type 0) (v : View) → Each P v.refusals → Each P (used_up v)
used_up-Each P v h = cond-Each P v.terms.by_parts v.refusals h

module _ (k : Terms) (drawn made limit all : ℕ) where
  -- by parts none is used up
  pub none-by_parts : (v : View) → Fits k drawn made limit all v → k.by_parts ≡ true → used_up v ≡ []
  none-by_parts v f by = dite (dec_le 1 v.weight)
      (λ live. used_up-parts v (ap (λ (t : Terms). t.by_parts) (f.live live).0 ∙ by))
      (λ not. used_up-none v (f.spent (omega arith)).1)

  -- a pass has used up what both had
  pub used_up-joined : (v w : View) → 0 < v.weight → Fits k drawn made limit all v → Fits k drawn made limit all w
      → used_up (joined_view v w) ≡ used_up v ++ used_up w
  used_up-joined v w live f g = dite (dec_le 1 w.weight)
      (λ alive.
      let same : v.terms.by_parts ≡ w.terms.by_parts =
      ap (λ (t : Terms). t.by_parts) ((f.live live).0 ∙ sym (g.live alive).0) in
      cond-append v.terms.by_parts v.refusals w.refusals ∙ ap (λ b. used_up v ++ cond b [] w.refusals) same)
      (λ not.
      let none : w.refusals ≡ [] = (g.spent (omega arith)).1 in
      cond-append v.terms.by_parts v.refusals w.refusals
      ∙ ap (λ xs. used_up v ++ xs)
      (ap (cond v.terms.by_parts []) none ∙ cond-same v.terms.by_parts [] ∙ sym (used_up-none w none)))
