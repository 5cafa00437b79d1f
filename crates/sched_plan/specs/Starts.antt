-- When a schedule goes on.
use Rattle.std.specs.Prelude.{ℕ, ◌≤◌}
use Rattle.sched_time.specs.declared.starts.Decision.{Decision}
use Rattle.sched_time.specs.declared.starts.Decision.TheVariants.{Go, Done}

-- a start is never before the moment of its event
abbrev pub StartsBy : ℕ → Decision → Type 0
StartsBy now (Go start) = now ≤ start
StartsBy now Done = Unit {0}
