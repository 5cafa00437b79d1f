-- Requests that were counted and not told, by slices of time.
use Rattle.std.specs.Prelude.{◌≡◌, ℕ, ◌+◌, ◌≤◌, ◌<◌, ◌⊎◌, min, List, [], ◌∷◌, ◌++◌, drop, length, sum_by, if◌then◌else◌}
use Rattle.std.specs.Prelude.{◌-◌, ◌/◌, ◌%◌, ◌==◌, max, nat_lt}
use Rattle.sched_ticket_lease.specs.declared.slice.Slice.{Slice}

-- what contracts see of them: how long a window is, a moment at which one ends, and the slices, the oldest first
pub record Asked : Type 0 where
  pub period : ℕ
  pub border : ℕ
  pub slices : List Slice

-- how many of a slice count for a window that began then
abbrev pub slice_since : ℕ → Slice → ℕ
slice_since since s = if nat_lt s.began since then 0 else s.count

-- the requests of the slices that began no earlier
abbrev pub since_then : ℕ → List Slice → ℕ
since_then since slices = sum_by (λ (s : Slice). slice_since since s) slices

-- no more than 32 slices, with room for one more: without the oldest
abbrev pub recent : List Slice → List Slice
recent slices = if nat_lt (length slices) 32 then slices else drop 1 slices

-- how long a slice goes on: a sixteenth of a window, and no less than a millisecond
abbrev pub stretch : ℕ → ℕ
stretch period = max (period / 16) 1

-- how long it is until a window ends
abbrev pub left_of : Asked → ℕ → ℕ
left_of a now = if nat_lt now a.border then a.border - now else a.period - (now - a.border) % a.period

-- when a slice ends that begins now: once it went on so long, or with the window; never, where there are no windows
abbrev pub slice_end : Asked → ℕ → ℕ
slice_end a now =
    if a.period == 0 then 4611686018427387904 else now + min (left_of a now) (stretch a.period)

-- a slice does not go on at this moment, or the last of these does not
abbrev pub HasEnded : ℕ → Slice → Type 0
HasEnded now s = (now < s.began) ⊎ (s.ends ≤ now)

abbrev pub HaveEnded : ℕ → List Slice → Type 0
HaveEnded now slices = (front : List Slice) (last : Slice) → slices ≡ front ++ last ∷ [] → HasEnded now last

-- the last slice has so many requests more
pub record Grows (now n : ℕ) (old new : List Slice) : Type 0 where
  pub front : List Slice
  pub last : Slice
  pub grown : Slice
  pub was : old ≡ front ++ last ∷ []
  pub is : new ≡ front ++ grown ∷ []
  pub in_time : (last.began ≤ now) × (now < last.ends)
  pub began : grown.began ≡ last.began
  pub ends : grown.ends ≡ last.ends
  pub count : grown.count ≡ min (last.count + n) 18446744073709551615

-- the last slice has ended, and one begins with so many requests
pub record Begins (now n : ℕ) (a : Asked) (new : List Slice) : Type 0 where
  pub slice : Slice
  pub is : new ≡ recent a.slices ++ slice ∷ []
  pub over : HaveEnded now a.slices
  pub began : slice.began ≡ now
  pub ends : slice.ends ≡ slice_end a now
  pub count : slice.count ≡ n

-- so many requests are counted at this moment
abbrev pub Counts : ℕ → ℕ → Asked → Asked → Type 0
Counts now n a b = (b.period ≡ a.period) × (b.border ≡ a.border)
    × (Grows now n a.slices b.slices ⊎ Begins now n a b.slices)

-- the requests since then are told, and none is told again
pub record Tells (since n : ℕ) (a b : Asked) : Type 0 where
  pub told : n ≡ min (since_then since a.slices) 18446744073709551615
  pub none_left : b.slices ≡ []
  pub period : b.period ≡ a.period
  pub border : b.border ≡ a.border
