-- Keys: the moments that they tell, and the rows in which they stand.
use Rattle.std.specs.Prelude.{◌≡◌, ℕ, suc, zero, ◌+◌, ◌/◌, ◌%◌, ◌<◌, ◌≤◌, nat_eq, min, if◌then◌else◌}
use Rattle.std.specs.Prelude.{List, [], ◌∷◌, sum_by, Option, Some, None}
use Rattle.std.specs.Global.{Global}
use Rattle.std.specs.List.Sorted.{IsSorted}
use Rattle.std.specs.Ordering.{nat_cmp}
use Rattle.std.specs.declared.cmp.Reverse.{Reverse}
use Rattle.std_alloc.specs.declared.vec.Vec.{Vec}

-- the moment that a key tells: each has 8,388,608 keys
abbrev pub moment_of : ℕ → ℕ
moment_of key = key / 8388608

-- the row in which a key stands
abbrev pub row_of : ℕ → ℕ
row_of key = moment_of key % 16384

abbrev pub one_if : ℕ → ℕ → ℕ
one_if key k = if nat_eq key k then 1 else 0

abbrev pub is_at : ℕ → Reverse ℕ → ℕ
is_at key x = one_if x.0 key

-- how often a key stands in a list
abbrev pub times_in : ℕ → List (Reverse ℕ) → ℕ
times_in key xs = sum_by (is_at key) xs

-- each key of a list is of this moment
abbrev pub AreOf : ℕ → List (Reverse ℕ) → Type 0
AreOf moment xs = (key : ℕ) → 0 < times_in key xs → moment_of key ≡ moment

-- the key comes after the moment that is reached, and before there is no row for its moment
pub record IsAhead (reached key : ℕ) : Type 0 where
  pub later : reached < moment_of key
  pub near : moment_of key < reached + 16384
  pub few : moment_of key < 2199023255552

-- the keys of a row
unfoldable pub row_at : List (Vec (Reverse ℕ) Global) → ℕ → List (Reverse ℕ)
row_at [] i = []
row_at (row ∷ rows) zero = row.items
row_at (row ∷ rows) (suc i) = row_at rows i

pub record IsPlaced (reached row key : ℕ) : Type 0 where
  pub row_is : row_of key ≡ row
  pub ahead : IsAhead reached key

-- each key stands in its row
abbrev pub ArePlaced : ℕ → List (Vec (Reverse ℕ) Global) → Type 0
ArePlaced reached rows = (row key : ℕ) → 0 < times_in key (row_at rows row) → IsPlaced reached row key

-- each key of a list is of a moment that is reached
abbrev pub AreReached : ℕ → List (Reverse ℕ) → Type 0
AreReached reached xs = (key : ℕ) → 0 < times_in key xs → moment_of key ≤ reached

-- no key of a list comes before this one
abbrev pub AreFrom : ℕ → List (Reverse ℕ) → Type 0
AreFrom least xs = (key : ℕ) → 0 < times_in key xs → least ≤ key

-- the keys descend: each comes no earlier than the next
abbrev pub Descend : List (Reverse ℕ) → Type 0
Descend = IsSorted (λ x y. nat_cmp y.0 x.0)

-- a key comes before a bound, where there is one
abbrev pub IsBefore : Option ℕ → ℕ → Type 0
IsBefore None key = Unit {0}
IsBefore (Some bound) key = key < bound

-- there is a bound, and the key does not come before it
abbrev pub IsFrom : Option ℕ → ℕ → Type 0
IsFrom None key = ⊥
IsFrom (Some bound) key = bound ≤ key

-- the lesser of two keys, where there are two
abbrev pub lesser : Option ℕ → Option ℕ → Option ℕ
lesser (Some a) (Some b) = Some (min a b)
lesser (Some a) None = Some a
lesser None b = b
