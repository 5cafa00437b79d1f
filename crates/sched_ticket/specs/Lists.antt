-- Lists of numbers, weighed. Two lists with the same weight under every `h` have the same numbers, each as often.
use Rattle.std.specs.Prelude.{◌≡◌, ℕ, zero, suc, ◌+◌, List, [], ◌∷◌, if◌then◌else◌, ◌==◌, nat_lt}

-- f of each element, added up
abbrev pub total : {A : Type 0} → (A → ℕ) → List A → ℕ
total f [] = 0
total f (x ∷ xs) = f x + total f xs

-- what the numbers below n weigh
abbrev pub below : (ℕ → ℕ) → ℕ → ℕ
below h zero = 0
below h (suc n) = below h n + h n

-- P of each element
abbrev pub Each : {A : Type 0} → (A → Type 0) → List A → Type 0
Each P [] = Unit {0}
Each P (x ∷ xs) = P x × Each P xs

abbrev pub is : ℕ → ℕ → ℕ
is x n = if n == x then 1 else 0

-- how often x stands in the list
abbrev pub times : ℕ → List ℕ → ℕ
times x xs = total (is x) xs

abbrev pub once_below : ℕ → ℕ → ℕ
once_below x n = if nat_lt x n then 1 else 0

-- the list has the numbers below n, each once, and no other
abbrev pub AreBelow : List ℕ → ℕ → Type 0
AreBelow xs n = (x : ℕ) → times x xs ≡ once_below x n

-- the same numbers, each as often
abbrev pub IsSame : List ℕ → List ℕ → Type 0
IsSame xs ys = (h : ℕ → ℕ) → total h xs ≡ total h ys
