-- Delays that a schedule changes, in milliseconds.
use Rattle.std.specs.Prelude.{ℕ, ◌+◌, ◌-◌, ◌*◌, ◌/◌, ◌^◌}
use Rattle.sched_time.specs.Capped.{capped}
use Rattle.sched_plan.specs.Datum.{Datum, unit, num, pair, list}

-- the delay with d more
abbrev pub added : ℕ → ℕ → ℕ
added d delay = capped (delay + d)

-- the delay with the output more, where that is a number
abbrev pub added_out : Datum → ℕ → ℕ
added_out unit delay = delay
added_out (num x) delay = capped (delay + x)
added_out (pair a b) delay = delay
added_out (list items) delay = delay

-- the delay in the ratio that a random word r picks between low and high thousandths, rounded down
abbrev pub jittered : ℕ → ℕ → ℕ → ℕ → ℕ
jittered low high r delay = capped (delay * (low * (2 ^ 32 - r) + high * r) / (1000 * 2 ^ 32))

-- the start at which the delay from now to `start` is changed
abbrev pub moved : (ℕ → ℕ) → ℕ → ℕ → ℕ
moved changed now start = capped (now + changed (start - now))
