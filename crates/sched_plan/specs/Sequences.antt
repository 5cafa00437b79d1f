-- The numbers that leaves put out, at event n of a history, where the first event has n = 1.
use Rattle.std.specs.Prelude.{ℕ, zero, suc, ◌+◌, ◌-◌, ◌*◌, ◌/◌, ◌^◌, min, max, List, fold}
use Rattle.sched_time.specs.Capped.{capped}

-- b times n
abbrev pub linear_at : ℕ → ℕ → ℕ
linear_at b n = capped (b * n)

-- b, and then each time k times as much
abbrev pub exponential_at : ℕ → ℕ → ℕ → ℕ
exponential_at b k n = capped (b * k ^ (n - 1))

-- the function applied so many times
abbrev pub times_applied : ℕ → (ℕ → ℕ) → ℕ → ℕ
times_applied zero f x = x
times_applied (suc m) f x = f (times_applied m f x)

-- b, and then each time the number before times k, divided by 1000 and rounded down
abbrev pub milli_at : ℕ → ℕ → ℕ → ℕ
milli_at b k n = times_applied (n - 1) (λ x. capped (x * k / 1000)) b

-- the Fibonacci numbers 0, 1, 1, 2, 3, 5 and so on
abbrev pub fib : ℕ → ℕ
fib zero = 0
fib (suc zero) = 1
fib (suc (suc n)) = fib (suc n) + fib n

-- a times the Fibonacci number
abbrev pub fibonacci_at : ℕ → ℕ → ℕ
fibonacci_at a n = capped (a * fib n)

-- s, and then each time m times the number before and a more
abbrev pub unfold_at : ℕ → ℕ → ℕ → ℕ → ℕ
unfold_at s m a n = times_applied (n - 1) (λ x. capped (m * x + a)) s

-- the number that a random word r picks between low and high, rounded down
abbrev pub picked : ℕ → ℕ → ℕ → ℕ
picked low high r = capped (low + (high - low) * r / 2 ^ 32)

-- the delay that follows this one in decorrelated jitter: the word picks it between b and k thousandths of the delay
-- before, and it is at most m
abbrev pub decorrelated_after : ℕ → ℕ → ℕ → ℕ → ℕ → ℕ
decorrelated_after b k m before r = min m (picked b (max b (capped (before * k / 1000))) r)

-- the delay at the last of these random words, one for each event: b at first, and then each from the delay before
abbrev pub decorrelated_at : ℕ → ℕ → ℕ → List ℕ → ℕ
decorrelated_at b k m rs = fold (decorrelated_after b k m) b rs
