-- What a draw costs.
use Rattle.std.specs.Prelude.{ℕ, ◌==◌, if◌then◌else◌}
use Rattle.sched_limit_draws.specs.declared.costs.Costs.{Costs}

-- after a failure with this code
abbrev pub cost_of : Costs → ℕ → ℕ
cost_of costs code = if code == costs.late_code then costs.late else costs.each
