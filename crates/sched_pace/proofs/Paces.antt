-- The laws of a pace between any two atomic steps.
use Rattle.std.proofs.Common.{ℕ, ◌-◌, ◌*◌, ◌≤◌, ◌&&◌, Bool, cond, leb, arith, le-leb, leb-true}
use Rattle.std.proofs.Common.{refl}
use Rattle.std.proofs.lemmas.Bool.{and_parts}
use Rattle.sched_limit_word.specs.Laws.{IsKeptBy, word_of}
use Rattle.sched_limit_word.specs.declared.call.Call.{Call}
use Rattle.sched_limit_word.specs.declared.call.Call.TheVariants.{Admit, Draw, Failed, Succeeded, Ended, Returned}
use Rattle.sched_limit_word.specs.declared.call.Call.TheVariants.{Closed, OpenedByHand, ClosedByHand}
use Rattle.sched_limit_word.specs.declared.view.Move.{Move}
use Rattle.sched_limit_word.proofs.Views.{what_is_kept_holds}
use Rattle.sched_pace.specs.Laws.{StartsAreFewer, StartsOfAllAreFewer, DueIsSmall}
use Rattle.sched_pace.specs.Pace.{clock, is_cost, is_near, is_last, due_after, pace_next}
use Rattle.sched_pace.specs.Starts.{taken_in, cost_returned}
use Rattle.sched_pace.specs.declared.pace.Pace.{Pace}
use Rattle.sched_pace.proofs.Cases.{cases}
use Rattle.sched_pace.proofs.Numbers.{granted_small, burst_small}
use Rattle.sched_pace.proofs.Starts.{run_few, run_taken}
use Rattle.sched_pace.proofs.Takes.{use_le, near_le}

pub starts_are_fewer : StartsAreFewer
starts_are_fewer p s owned = run_few p owned.kept.run (word_of s) owned.kept.is_run owned.own

pub starts_of_all_are_fewer : StartsOfAllAreFewer
starts_of_all_are_fewer p s owned m l = omega (
  arith,
  run_taken p m l owned.kept.run,
  starts_are_fewer p s owned m l,
  owned.kept.shared (λ (n : Move). taken_in p m l n.call n.found n.left),
  owned.kept.shared (λ (n : Move). cost_returned n.call n.found n.left),
)

module _ (p : Pace) where
  next_small : (c : Call) (w : ℕ) → w ≤ 4611686018427387903 → pace_next p c w ≤ 4611686018427387903
  next_small (Draw now cost slots) w h =
      cases (λ (b : Bool). cond b (due_after p now cost w) w ≤ 4611686018427387903)
      (is_cost p cost && is_near p now cost w)
      (λ granted.
      let both = and_parts (is_cost p cost) (is_near p now cost w) granted in
      let early : clock now ≤ 2251799813685247 = omega arith in
      omega (
        arith,
        granted_small (clock now) (cost * p.each) (p.burst * p.each) w p.longest (use_le p cost both.0)
            (burst_small p.burst p.each p.is_burst.1 p.is_each.1) p.is_longest early
            (near_le p now cost w both.1),
      ))
      (λ _. h)
  next_small (Returned cost mark) w h =
      cases (λ (b : Bool). cond b (w - cost * p.each) w ≤ 4611686018427387903) (is_last p cost mark w)
      (λ _. omega (arith, h)) (λ _. h)
  next_small (Admit now random before) w h = h
  next_small (Failed now generation) w h = h
  next_small (Succeeded now generation worth) w h = h
  next_small (Ended slots) w h = h
  next_small (Closed now) w h = h
  next_small (OpenedByHand now until) w h = h
  next_small (ClosedByHand now) w h = h

  pub kept_small : IsKeptBy (pace_next p) 0 (λ (w : ℕ). leb w 4611686018427387903)
  kept_small = (
    refl,
    λ c w h. le-leb (pace_next p c w) 4611686018427387903 (next_small c w (leb-true w 4611686018427387903 h)),
  )

pub due_is_small : DueIsSmall
due_is_small p s kept =
    let le : word_of s ≤ 4611686018427387903 = leb-true (word_of s) 4611686018427387903
    (what_is_kept_holds (pace_next p) 0 s kept (λ (w : ℕ). leb w 4611686018427387903) (kept_small p)).0 in
    omega (arith, le)
