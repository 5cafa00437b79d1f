-- Windows, each counted once.
use Rattle.std.specs.Prelude.{◌≡◌, ◌↔◌, ℕ, List, length}
use Rattle.std.specs.List.{Contains}
use Rattle.std.specs.List.Sorted.{IsStrictlyIncreasing}

-- the same numbers stand in both, however often
abbrev pub HaveSame : List ℕ → List ℕ → Type 0
HaveSame xs ys = (x : ℕ) → Contains xs x ↔ Contains ys x

-- so many different numbers stand in the list
pub record HasDistinct (n : ℕ) (xs : List ℕ) : Type 0 where
  -- each of them once, from the least on
  pub once : List ℕ
  pub rises : IsStrictlyIncreasing once
  pub same : HaveSame once xs
  pub count : length once ≡ n
