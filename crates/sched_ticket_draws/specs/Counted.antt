-- What a draw adds to the tickets granted.
use Rattle.std.specs.Prelude.{ℕ, ◌+◌, Bool, if◌then◌else◌}

-- the tickets granted after a draw: one more where it was granted
abbrev pub count_after : Bool → ℕ → ℕ
count_after got n = if got then n + 1 else n
