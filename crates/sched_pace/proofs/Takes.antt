-- The laws of one take.
use Rattle.std.proofs.Common.{◌≡◌, ℕ, ◌+◌, ◌-◌, ◌*◌, ◌<◌, ◌≤◌, ◌&&◌, Bool, true, false, cond, refl, ap, ◌∙◌, arith}
use Rattle.std.proofs.Common.{leb-true, le-leb}
use Rattle.std.proofs.Math.Nat.{mul-le-mul_right}
use Rattle.std.proofs.lemmas.Bool.{leb-false, lt-leb, and_from}
use Rattle.sched_pace.specs.Laws.{IsGrantedAtOnce, IsGrantedWhenTold, WouldBeGranted, WaitsAreShort, GrantIsDone}
use Rattle.sched_pace.specs.Laws.{StartIsTheFirst, RefusalIsDone}
use Rattle.sched_pace.specs.Pace.{clock, is_cost, is_near, begins_at, due_after, took}
use Rattle.sched_pace.specs.declared.pace.Pace.{Pace}
use Rattle.sched_pace.specs.declared.taken.Taken.TheVariants.{Granted, TooSoon}
use Rattle.sched_pace.proofs.Cases.{costs, took_near, took_far, is_granted, is_refused}
use Rattle.sched_pace.proofs.Numbers.{begins, at_once, only_once, begins_after, again_later, again_granted}
use Rattle.sched_pace.proofs.Numbers.{before_same, begins_first, first_fits, uses_some}

module _ (p : Pace) where
  -- what a call uses is at most a burst
  pub use_le : (cost : ℕ) → is_cost p cost ≡ true → cost * p.each ≤ p.burst * p.each
  use_le cost h = mul-le-mul_right {m = cost} {n = p.burst} p.each (costs p cost h).1

  clock_is : (now : ℕ) → now ≤ 2251799813685247 → clock now ≡ now
  clock_is now early = omega (arith, early)

  pub near_le : (now cost due : ℕ) → is_near p now cost due ≡ true
      → begins (clock now) (cost * p.each) (p.burst * p.each) due - clock now ≤ p.longest
  near_le now cost due h = leb-true (begins_at p now cost due - clock now) p.longest h

  far_lt : (now cost due : ℕ) → is_near p now cost due ≡ false
      → p.longest < begins (clock now) (cost * p.each) (p.burst * p.each) due - clock now
  far_lt now cost due h = leb-false (begins_at p now cost due - clock now) p.longest h

  begins_now : (now cost due : ℕ) → is_cost p cost ≡ true
      → due + cost * p.each ≤ 1000 * clock now + p.burst * p.each
      → took p now cost due ≡ Granted (clock now) (due_after p now cost due)
  begins_now now cost due has fits =
      let at : begins_at p now cost due ≡ clock now =
      at_once (clock now) (cost * p.each) (p.burst * p.each) due (use_le cost has) fits in
      took_near p now cost due has
      (le-leb (begins_at p now cost due - clock now) p.longest (omega (arith, at)))
      ∙ ap (λ (x : ℕ). Granted x (due_after p now cost due)) at

  only_now : (now cost due : ℕ) → took p now cost due ≡ Granted (clock now) (due_after p now cost due)
      → due + cost * p.each ≤ 1000 * clock now + p.burst * p.each
  only_now now cost due e =
      only_once (clock now) (cost * p.each) (p.burst * p.each) due
      (is_granted p now cost due (clock now) (due_after p now cost due) e).2

  module _ (now cost due again : ℕ) (e : took p now cost due ≡ TooSoon again) (early : again ≤ 2251799813685247) where
    abbrev u : ℕ
    u = cost * p.each

    abbrev v : ℕ
    v = p.burst * p.each

    has : is_cost p cost ≡ true
    has = (is_refused p now cost due again e).0

    far : p.longest < begins (clock now) u v due - clock now
    far = far_lt now cost due (is_refused p now cost due again e).1

    again_is : begins (clock now) u v due - p.longest ≡ again
    again_is = (is_refused p now cost due again e).2

    then_begins : begins_at p again cost due ≡ again + p.longest
    then_begins =
        ap (λ (c : ℕ). begins c u v due) (clock_is again early)
        ∙ again_granted (clock now) u v due p.longest again (use_le cost has) far again_is

    would : took p again cost due ≡ Granted (again + p.longest) (due_after p again cost due)
    would =
        took_near p again cost due has
        (le-leb (begins_at p again cost due - clock again) p.longest
        (omega (arith, then_begins, clock_is again early)))
        ∙ ap (λ (x : ℕ). Granted x (due_after p again cost due)) then_begins

    same_begins : (before : ℕ) → before < again → begins_at p before cost due ≡ begins (clock now) u v due
    same_begins before sooner =
        ap (λ (c : ℕ). begins c u v due) (clock_is before (omega (arith, sooner, early)))
        ∙ before_same (clock now) u v due p.longest before (use_le cost has) far (omega (arith, sooner, again_is))

    would_not : (before : ℕ) → before < again → took p before cost due ≡ TooSoon again
    would_not before sooner =
        took_far p before cost due has
        (lt-leb (begins_at p before cost due - clock before) p.longest
        (omega (arith, same_begins before sooner, clock_is before (omega (arith, sooner, early)), sooner, again_is)))
        ∙ ap (λ (x : ℕ). TooSoon (x - p.longest)) (same_begins before sooner)
        ∙ ap TooSoon again_is

    pub would_be : WouldBeGranted p now cost due again
    would_be = record {
      later = omega (arith, again_later (clock now) u v due p.longest far, again_is);
      granted = would;
      refused = would_not;
    }

pub is_granted_at_once : IsGrantedAtOnce
is_granted_at_once p now cost due has = (begins_now p now cost due has, only_now p now cost due)

pub is_granted_when_told : IsGrantedWhenTold
is_granted_when_told p now cost due again e early = would_be p now cost due again e early

pub start_is_the_first : StartIsTheFirst
start_is_the_first p now cost due at mark m e later =
    let g = is_granted p now cost due at mark e in (
      λ le. first_fits (clock now) (cost * p.each) (p.burst * p.each) due m (omega (arith, g.2, le)),
      λ fits. let le : begins (clock now) (cost * p.each) (p.burst * p.each) due ≤ m =
          begins_first (clock now) (cost * p.each) (p.burst * p.each) due m (use_le p cost g.0) later fits in
          omega (arith, g.2, le),
    )

pub waits_are_short : WaitsAreShort
waits_are_short p now cost due at mark e =
    let g = is_granted p now cost due at mark e in (
      omega (arith, g.2, begins_after (clock now) (cost * p.each) (p.burst * p.each) due),
      omega (arith, g.2, near_le p now cost due g.1),
    )

pub grant_is_done : GrantIsDone
grant_is_done p now cost due at mark slots e =
    let g = is_granted p now cost due at mark e in (
      ap (λ (b : Bool). cond b (due_after p now cost due) due)
          (and_from (is_cost p cost) (is_near p now cost due) g.0 g.1) ∙ g.3,
      omega (arith, g.3, uses_some cost p.each (costs p cost g.0).0 p.is_each.0),
    )

and_false : (a b : Bool) → b ≡ false → (a && b) ≡ false
and_false true b e = e
and_false false b e = refl

pub refusal_is_done : RefusalIsDone
refusal_is_done p now cost due again slots e =
    ap (λ (b : Bool). cond b (due_after p now cost due) due)
    (and_false (is_cost p cost) (is_near p now cost due) (is_refused p now cost due again e).1)
