-- A stream that counts how many of its calls fail.
use Rattle.std.specs.Prelude.{ℕ, Option}
use Rattle.std.specs.declared.io.Error.{Error}
use Rattle.sched_cli_plan.specs.declared.counts.Counted.{Counted}

-- the stream that is counted
abbrev pub inner_of : {T : Type 0} → Counted T → T
inner_of counted = counted.inner

-- how many of its calls have failed, modulo 2^64
abbrev pub failures_of : {T : Type 0} → Counted T → ℕ
failures_of counted = counted.failures

-- the error of the last call that failed, if one has
abbrev pub last_of : {T : Type 0} → Counted T → Option Error
last_of counted = counted.last
