-- A place as text, and the line of a fault.
use Rattle.std.specs.Prelude.{ℕ, List, [], ◌∷◌, ◌++◌, codes, decimal}
use Rattle.sched_plan_check.specs.Places.{Into, key, index}

-- the first step: `NAME` or `[NUMBER]`
abbrev pub first_text : Into → List ℕ
first_text (key name) = name
first_text (index i) = codes "[" ++ decimal i ++ codes "]"

-- a later step: `.NAME` or `[NUMBER]`
abbrev pub step_text : Into → List ℕ
step_text (key name) = codes "." ++ name
step_text (index i) = codes "[" ++ decimal i ++ codes "]"

abbrev pub steps_text : List Into → List ℕ
steps_text [] = []
steps_text (step ∷ place) = step_text step ++ steps_text place

-- the steps one after another, and `top` where there is none
abbrev pub place_text : List Into → List ℕ
place_text [] = codes "top"
place_text (step ∷ place) = first_text step ++ steps_text place

-- `PLACE: HINT`
abbrev pub fault_text : List Into → List ℕ → List ℕ
fault_text place hint = place_text place ++ codes ": " ++ hint
