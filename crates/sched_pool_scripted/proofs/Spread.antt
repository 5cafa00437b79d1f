-- Numbers that rise, and the last of a journal.
use Rattle.std.proofs.Common.{◌≡◌, ℕ, zero, suc, ◌-◌, ◌<◌, ◌≤◌, List, [], ◌∷◌, length, get_or, refl, arith}
use Rattle.sched_plan.specs.History.{last_moment}
use Rattle.sched_plan.specs.declared.history.Event.{Event}
use Rattle.sched_ticket.specs.Lists.{times}
use Rattle.sched_ticket.proofs.Sums.{is-same, is-other}

-- a number stands as often as there are places from the first that is not below it to the last that is not above it
pub times_between : (xs : List ℕ) (w a b : ℕ) → a ≤ length xs → b ≤ length xs →
    ((i : ℕ) → i < a → get_or xs i 0 < w) → ((i : ℕ) → a ≤ i → i < length xs → w ≤ get_or xs i 0) →
    ((i : ℕ) → i < b → get_or xs i 0 ≤ w) → ((i : ℕ) → b ≤ i → i < length xs → w < get_or xs i 0) → times w xs ≡ b - a
times_between [] w a b few-a few-b below from through past = omega (arith, few-a, few-b)
times_between (x ∷ xs) w zero zero few-a few-b below from through past =
    let not = past 0 (omega arith) (omega arith) in
    omega (
      arith,
      is-other w x (λ e. omega (arith, not, e)),
      times_between xs w 0 0 (omega arith) (omega arith) (λ i low. absurd (omega (arith, low)))
          (λ i low lt. from (suc i) (omega arith) (omega (arith, lt)))
          (λ i low. absurd (omega (arith, low))) (λ i low lt. past (suc i) (omega arith) (omega (arith, lt))),
    )
times_between (x ∷ xs) w zero (suc b) few-a few-b below from through past =
    let here = from 0 (omega arith) (omega arith) in
    let there = through 0 (omega arith) in
    omega (
      arith,
      is-same w x (omega (arith, here, there)),
      times_between xs w 0 b (omega arith) (omega (arith, few-b)) (λ i low. absurd (omega (arith, low)))
          (λ i low lt. from (suc i) (omega arith) (omega (arith, lt)))
          (λ i low. through (suc i) (omega (arith, low)))
          (λ i low lt. past (suc i) (omega (arith, low)) (omega (arith, lt))),
    )
times_between (x ∷ xs) w (suc a) zero few-a few-b below from through past =
    let here = below 0 (omega arith) in
    let there = past 0 (omega arith) (omega arith) in
    absurd (omega (arith, here, there))
times_between (x ∷ xs) w (suc a) (suc b) few-a few-b below from through past =
    let not = below 0 (omega arith) in
    omega (
      arith,
      is-other w x (λ e. omega (arith, not, e)),
      times_between xs w a b (omega (arith, few-a)) (omega (arith, few-b)) (λ i low. below (suc i) (omega (arith, low)))
          (λ i low lt. from (suc i) (omega (arith, low)) (omega (arith, lt)))
          (λ i low. through (suc i) (omega (arith, low)))
          (λ i low lt. past (suc i) (omega (arith, low)) (omega (arith, lt))),
    )

-- the last event's moment
pub last_at : (h : List Event) (d : Event) (n : ℕ) → length h ≡ suc n → last_moment h ≡ (get_or h n d).now
last_at [] d n long = absurd (omega (arith, long))
last_at (e ∷ []) d zero long = refl
last_at (e ∷ []) d (suc n) long = absurd (omega (arith, long))
last_at (e ∷ c ∷ h) d zero long = absurd (omega (arith, long))
last_at (e ∷ c ∷ h) d (suc n) long = last_at (c ∷ h) d n (omega (arith, long))
