-- The cases of a test, and what a take is told by its two tests.
use Rattle.std.proofs.Common.{◌≡◌, ◌≢◌, ℕ, ◌-◌, ◌<◌, ◌≤◌, Bool, true, false, cond, ltb, leb, refl, ap, ◌∙◌}
use Rattle.std.proofs.Common.{ltb-true, leb-true, ne_eqb, eq-eqb}
use Rattle.std.proofs.lemmas.Bool.{and_parts}
use mathlib.Core.Bool.{false≢true}
use Rattle.sched_ticket.specs.Lists.{is}
use Rattle.sched_pace.specs.Pace.{is_cost, is_near, begins_at, due_after, told_cost, took}
use Rattle.sched_pace.specs.declared.pace.Pace.{Pace}
use Rattle.sched_pace.specs.declared.taken.Taken.{Taken}
use Rattle.sched_pace.specs.declared.taken.Taken.TheVariants.{Granted, TooSoon, NoCost}

pub cases : (P : Bool → Type 0) (c : Bool) → (c ≡ true → P true) → (c ≡ false → P false) → P c
cases P true hit miss = hit refl
cases P false hit miss = miss refl

pub is_not : (k n : ℕ) → n ≢ k → is k n ≡ 0
is_not k n other = ap (λ (b : Bool). cond b 1 0) (ne_eqb n k other)

pub is_one : (k : ℕ) → is k k ≡ 1
is_one k = ap (λ (b : Bool). cond b 1 0) (eq-eqb k k refl)

abbrev at_of : Taken → ℕ
at_of (Granted at mark) = at
at_of (TooSoon again) = again
at_of NoCost = 0

abbrev mark_of : Taken → ℕ
mark_of (Granted at mark) = mark
mark_of (TooSoon again) = 0
mark_of NoCost = 0

abbrev grants : Taken → Bool
grants (Granted at mark) = true
grants (TooSoon again) = false
grants NoCost = false

abbrev refuses : Taken → Bool
refuses (Granted at mark) = false
refuses (TooSoon again) = true
refuses NoCost = false

granted_by : (a b : Bool) (x y z at mark : ℕ)
    → cond a (cond b (Granted x y) (TooSoon z)) NoCost ≡ Granted at mark
    → (a ≡ true) × (b ≡ true) × (x ≡ at) × (y ≡ mark)
granted_by true true x y z at mark e = (refl, refl, ap at_of e, ap mark_of e)
granted_by true false x y z at mark e = absurd (false≢true (ap grants e))
granted_by false b x y z at mark e = absurd (false≢true (ap grants e))

refused_by : (a b : Bool) (x y z again : ℕ)
    → cond a (cond b (Granted x y) (TooSoon z)) NoCost ≡ TooSoon again
    → (a ≡ true) × (b ≡ false) × (z ≡ again)
refused_by true true x y z again e = absurd (false≢true (ap refuses e))
refused_by true false x y z again e = (refl, refl, ap at_of e)
refused_by false b x y z again e = absurd (false≢true (ap refuses e))

module _ (p : Pace) where
  pub costs : (cost : ℕ) → is_cost p cost ≡ true → (0 < cost) × (cost ≤ p.burst)
  costs cost h =
      let both = and_parts (ltb 0 cost) (leb cost p.burst) h in
      (ltb-true 0 cost both.0, leb-true cost p.burst both.1)

  module _ (now cost due : ℕ) (has : is_cost p cost ≡ true) where
    pub took_near : is_near p now cost due ≡ true
        → took p now cost due ≡ Granted (begins_at p now cost due) (due_after p now cost due)
    took_near near =
        ap (λ (b : Bool). cond b (told_cost p now cost due) NoCost) has
        ∙ ap (λ (b : Bool). cond b (Granted (begins_at p now cost due) (due_after p now cost due))
        (TooSoon (begins_at p now cost due - p.longest))) near

    pub took_far : is_near p now cost due ≡ false
        → took p now cost due ≡ TooSoon (begins_at p now cost due - p.longest)
    took_far far =
        ap (λ (b : Bool). cond b (told_cost p now cost due) NoCost) has
        ∙ ap (λ (b : Bool). cond b (Granted (begins_at p now cost due) (due_after p now cost due))
        (TooSoon (begins_at p now cost due - p.longest))) far

  pub is_granted : (now cost due at mark : ℕ) → took p now cost due ≡ Granted at mark
      → (is_cost p cost ≡ true) × (is_near p now cost due ≡ true)
      × (begins_at p now cost due ≡ at) × (due_after p now cost due ≡ mark)
  is_granted now cost due at mark e = granted_by (is_cost p cost) (is_near p now cost due) (begins_at p now cost due)
      (due_after p now cost due) (begins_at p now cost due - p.longest) at mark e

  pub is_refused : (now cost due again : ℕ) → took p now cost due ≡ TooSoon again
      → (is_cost p cost ≡ true) × (is_near p now cost due ≡ false) × (begins_at p now cost due - p.longest ≡ again)
  is_refused now cost due again e = refused_by (is_cost p cost) (is_near p now cost due) (begins_at p now cost due)
      (due_after p now cost due) (begins_at p now cost due - p.longest) again e
