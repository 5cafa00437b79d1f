-- The start that a decision names.
use Rattle.std.specs.Prelude.{ℕ, Option, Some, None}
use Rattle.sched_time.specs.declared.starts.Decision.{Decision}
use Rattle.sched_time.specs.declared.starts.Decision.TheVariants.{Go, Done}

-- the start at which a decision goes on, if it does
abbrev pub start_of : Decision → Option ℕ
start_of (Go start) = Some start
start_of Done = None
