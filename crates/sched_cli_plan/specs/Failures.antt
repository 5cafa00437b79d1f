-- How a stream counts its failed calls.
use Rattle.std.specs.Prelude.{ℕ, ◌+◌, ◌%◌, ◌^◌, ◌==◌, ◌&&◌, nat_lt, if◌then◌else◌, List, length, Result, Ok, Err}

-- one failure more, modulo 2^64
abbrev pub next_count : ℕ → ℕ
next_count count = (count + 1) % 2 ^ 64

-- the count after a read: an error is a failure
abbrev pub count_after_read : {E : Type 0} → Result ℕ E → ℕ → ℕ
count_after_read (Ok n) count = count
count_after_read (Err e) count = next_count count

-- the count after a write: an error is a failure, and so is taking no byte of a buffer that has some
abbrev pub count_after_write : {E : Type 0} → Result ℕ E → List ℕ → ℕ → ℕ
count_after_write (Ok n) buf count = if (n == 0) && nat_lt 0 (length buf) then next_count count else count
count_after_write (Err e) buf count = next_count count
