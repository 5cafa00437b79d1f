-- Which keys a calendar has, and what it is to take one out.
use Rattle.std.specs.Prelude.{◌≡◌, ◌⊎◌, ℕ, ◌+◌, ◌<◌, ◌≤◌, List, [], Option, Some, None}
use Rattle.std.specs.BinaryHeap.{heap_items}
use Rattle.std.specs.declared.cmp.Reverse.{Reverse}
use Rattle.sched_calendar.specs.Keys.{one_if, times_in, AreFrom}
use Rattle.sched_calendar.specs.Ahead.{times_ahead}
use Rattle.sched_calendar.specs.declared.calendar.Calendar.{Calendar}

-- how often the calendar has a key
abbrev pub times : Calendar → ℕ → ℕ
times c key = times_in key c.ready.items + (times_ahead c.ahead key + times_in key (heap_items c.others))

-- a key is taken out of it, and the others stay
abbrev pub TakesOut : Calendar → ℕ → Calendar → Type 0
TakesOut old key new = (k : ℕ) → times old k ≡ one_if key k + times new k

-- it has the same keys
abbrev pub HasSame : Calendar → Calendar → Type 0
HasSame old new = (k : ℕ) → times new k ≡ times old k

-- none of its keys comes before this one
abbrev pub IsLeast : Calendar → ℕ → Type 0
IsLeast c key = (k : ℕ) → 0 < times c k → key ≤ k

-- Some key of others, or the bound, comes before this one.
pub record HasEarlier (others : List (Reverse ℕ)) (bound : Option ℕ) (key : ℕ) : Type 0 where
  pub earlier : ℕ
  pub is : (bound ≡ Some earlier) ⊎ (0 < times_in earlier others)
  pub before : earlier < key

-- No key of the moments ahead can be the least, unless a key is ready.
abbrev pub IsSeen : Calendar → Option ℕ → Type 0
IsSeen c bound = (key : ℕ) → 0 < times_ahead c.ahead key → HasEarlier (heap_items c.others) bound key

-- The least of the keys that are ready, and of the others, is this one, or there is none.
abbrev pub IsLeastOf : Option ℕ → List (Reverse ℕ) → Type 0
IsLeastOf None xs = xs ≡ []
IsLeastOf (Some key) xs = (0 < times_in key xs) × AreFrom key xs

-- none of its keys comes before the bound, or it has none
abbrev pub ComesFirst : Calendar → Option ℕ → Type 0
ComesFirst c None = (k : ℕ) → times c k ≡ 0
ComesFirst c (Some bound) = IsLeast c bound
