-- The laws of a bucket.
use Rattle.std.proofs.Common.{◌≡◌, ℕ, ◌+◌, ◌-◌, ◌≤◌, true, ◌==◌, ◌||◌, ◌&&◌, leb, List, [], ◌∷◌, refl, arith}
use Rattle.std.proofs.Common.{le-leb, leb-true, eq-eqb}
use Rattle.sched_ticket.proofs.Sums.{total-plus, total-le}
use Rattle.sched_limit_word.specs.Rule.{moves_of}
use Rattle.sched_limit_word.specs.Laws.{IsKeptBy, word_of}
use Rattle.sched_limit_word.specs.Tokens.{gained_by, used_by}
use Rattle.sched_limit_word.specs.declared.call.Call.{Call}
use Rattle.sched_limit_word.specs.declared.call.Call.TheVariants.{Admit, Draw, Failed, Succeeded, Ended, Returned}
use Rattle.sched_limit_word.specs.declared.call.Call.TheVariants.{Closed, OpenedByHand, ClosedByHand}
use Rattle.sched_limit_word.specs.declared.view.Move.{Move}
use Rattle.sched_limit_word.specs.declared.view.View.{View}
use Rattle.sched_limit_word.proofs.Views.{what_is_kept_holds, sums_telescope}
use Rattle.sched_limit.specs.Bucket.{bucket_next}
use Rattle.sched_limit.specs.BucketTokens.{DrawsComeBackOnce, bucket_tokens}
use Rattle.sched_limit.specs.Laws.{LevelStaysWithin, TokensAreCounted, GrantsLeaveTheFloor, granted, debited, credited}
use Rattle.sched_limit.specs.Laws.{is_above}
use Rattle.sched_limit.specs.declared.bucket.Bucket.{Bucket}
use Rattle.sched_limit.proofs.Cases.{by_lt, or_left, or_right, and_both, each_is}

module _ (b : Bucket) where
  next_le : (c : Call) (w : ℕ) → w ≤ b.capacity → bucket_next b c w ≤ b.capacity
  next_le (Admit now random before) w h = h
  next_le (Draw now cost slots) w h =
      by_lt (λ (x : ℕ). x ≤ b.capacity) w (b.floor + cost) w (w - cost) (λ _. h) (λ _. omega (arith, h))
  next_le (Failed now generation) w h = omega (arith, h)
  next_le (Succeeded now generation worth) w h = omega arith
  next_le (Ended slots) w h = h
  next_le (Returned cost slots) w h = omega arith
  next_le (Closed now) w h = h
  next_le (OpenedByHand now until) w h = h
  next_le (ClosedByHand now) w h = h

  pub kept_within : IsKeptBy (bucket_next b) b.capacity (λ (w : ℕ). leb w b.capacity)
  kept_within = (
    le-leb b.capacity b.capacity (omega arith),
    λ c w h. le-leb (bucket_next b c w) b.capacity (next_le c w (leb-true w b.capacity h)),
  )

  -- what one call takes and what it gives
  pub balanced : (c : Call) (w : ℕ) → w ≤ b.capacity
      → bucket_next b c w + (granted c w (bucket_next b c w) + debited c w (bucket_next b c w))
      ≡ w + credited c w (bucket_next b c w)
  balanced (Admit now random before) w h = omega arith
  balanced (Draw now cost slots) w h = by_lt (λ (x : ℕ). x + ((w - x) + 0) ≡ w + 0) w (b.floor + cost) w (w - cost)
      (λ _. omega arith) (λ _. omega arith)
  balanced (Failed now generation) w h = omega arith
  balanced (Succeeded now generation worth) w h = omega (arith, h)
  balanced (Ended slots) w h = omega arith
  balanced (Returned cost slots) w h = omega (arith, h)
  balanced (Closed now) w h = omega arith
  balanced (OpenedByHand now until) w h = omega arith
  balanced (ClosedByHand now) w h = omega arith

  above : (c : Call) (w : ℕ) → is_above b c w (bucket_next b c w) ≡ true
  above (Admit now random before) w = refl
  above (Draw now cost slots) w =
      by_lt (λ (x : ℕ). ((x == w) || ((x + cost == w) && leb b.floor x)) ≡ true) w (b.floor + cost) w (w - cost)
      (λ _. or_left (w == w) ((w + cost == w) && leb b.floor w) (eq-eqb w w refl))
      (λ high. or_right (w - cost == w) ((w - cost + cost == w) && leb b.floor (w - cost))
      (and_both (w - cost + cost == w) (leb b.floor (w - cost)) (eq-eqb (w - cost + cost) w (omega (arith, high)))
      (le-leb b.floor (w - cost) (omega (arith, high)))))
  above (Failed now generation) w = refl
  above (Succeeded now generation worth) w = refl
  above (Ended slots) w = refl
  above (Returned cost slots) w = refl
  above (Closed now) w = refl
  above (OpenedByHand now until) w = refl
  above (ClosedByHand now) w = refl

-- what two kinds of moves weigh together
moves_plus : (f g : Move → ℕ) (views : List View)
    → moves_of (λ (m : Move). f m + g m) views ≡ moves_of f views + moves_of g views
moves_plus f g [] = refl
moves_plus f g (v ∷ views) = omega (arith, total-plus f g v.moves, moves_plus f g views)

pub level_stays_within : LevelStaysWithin
level_stays_within b s kept =
    leb-true (word_of s) b.capacity
    (what_is_kept_holds (bucket_next b) b.capacity s kept (λ (w : ℕ). leb w b.capacity) (kept_within b)).0

pub tokens_are_counted : TokensAreCounted
tokens_are_counted b s kept =
    let out : Move → ℕ = λ (m : Move). granted m.call m.found m.left in
    let lost : Move → ℕ = λ (m : Move). debited m.call m.found m.left in
    let in_ : Move → ℕ = λ (m : Move). credited m.call m.found m.left in
    omega (
      arith,
      sums_telescope (bucket_next b) b.capacity s kept (λ (w : ℕ). leb w b.capacity) (λ (w : ℕ). w)
          (λ (m : Move). out m + lost m) in_ (kept_within b)
          (λ c w h. balanced b c w (leb-true w b.capacity h)),
      moves_plus out lost s.views,
    )

pub grants_leave_the_floor : GrantsLeaveTheFloor
grants_leave_the_floor b = each_is (bucket_next b) b.capacity (λ (w : ℕ). leb w b.capacity) (is_above b) (kept_within b)
    (λ c w _. above b c w)

pub draws_come_back_once : DrawsComeBackOnce
draws_come_back_once b s owned cost =
    let o = bucket_tokens b in
    total-le (λ (v : View). used_by o cost v.moves) (λ (v : View). gained_by o cost v.moves) s.views
    (λ i v there. owned.owns i v there cost)
