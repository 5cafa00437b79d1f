-- Parts: what passes stand for that are split without being counted.
use Rattle.std.specs.Prelude.{ℕ, if◌then◌else◌, nat_lt}

-- all parts, which the first pass has
abbrev pub all_parts : ℕ
all_parts = 4611686018427387904

-- how many parts a split gives of so many
abbrev pub part : ℕ → ℕ
part n = if nat_lt 1048576 n then 1048576 else 1
