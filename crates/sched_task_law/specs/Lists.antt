-- Tests of the last element of a list, and of those before it.
use Rattle.std.specs.Prelude.{Bool, true, false, ◌&&◌, List, [], ◌∷◌, Option, Some, None}

-- all elements but the last pass the test
abbrev pub all_but_last : {A : Type 0} → (A → Bool) → List A → Bool
all_but_last test [] = true
all_but_last test (x ∷ []) = true
all_but_last test (x ∷ y ∷ xs) = test x && all_but_last test (y ∷ xs)

-- there is a last element, and it passes the test
abbrev pub last_is : {A : Type 0} → (A → Bool) → List A → Bool
last_is test [] = false
last_is test (x ∷ []) = test x
last_is test (x ∷ y ∷ xs) = last_is test (y ∷ xs)

-- the last element, if there is one
abbrev pub last_element : {A : Type 0} → List A → Option A
last_element [] = None
last_element (x ∷ []) = Some x
last_element (x ∷ y ∷ xs) = last_element (y ∷ xs)
