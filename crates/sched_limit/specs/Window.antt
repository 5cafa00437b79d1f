-- A word of a throttle: a window, whether it is closed, and what it counts.
use Rattle.std.specs.Prelude.{ℕ, ◌+◌, ◌*◌, ◌/◌, ◌%◌, ◌==◌, ◌&&◌, ◌||◌, not, Bool, if◌then◌else◌, nat_lt}

-- the window, from 1 on
abbrev pub window_of : ℕ → ℕ
window_of word = word / 2199023255552

abbrev pub is_closed : ℕ → Bool
is_closed word = word / 1099511627776 % 2 == 1

abbrev pub requests_in : ℕ → ℕ
requests_in word = word / 1048576 % 1048576

abbrev pub accepts_in : ℕ → ℕ
accepts_in word = word % 1048576

abbrev pub counted : ℕ → ℕ → ℕ → ℕ → ℕ
counted window closed requests accepts =
    window * 2199023255552 + closed * 1099511627776 + requests * 1048576 + accepts

-- what the word counts of this window: nothing, where it is of another
abbrev pub requests_at : ℕ → ℕ → ℕ
requests_at window word = if window_of word == window then requests_in word else 0

abbrev pub accepts_at : ℕ → ℕ → ℕ
accepts_at window word = if window_of word == window then accepts_in word else 0

-- the word takes counts of this window: it is of an earlier one, or of this one and open
abbrev pub is_open_to : ℕ → ℕ → Bool
is_open_to window word = nat_lt (window_of word) window || ((window_of word == window) && not (is_closed word))
