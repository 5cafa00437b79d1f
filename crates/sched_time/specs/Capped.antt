-- A number that stops at `FAR`.
use Rattle.std.specs.Prelude.{ℕ, min}
use Rattle.sched_time.specs.declared.numbers.TheConstants.{FAR}

-- a sum or a product of moments, durations and counts stops at FAR
abbrev pub capped : ℕ → ℕ
capped n = min n FAR
