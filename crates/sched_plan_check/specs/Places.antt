-- Places in a JSON value.
use Rattle.std.specs.Prelude.{ℕ, List, [], ◌∷◌, map, Option, Some, option_and_then}
use Rattle.serde_json.specs.Data.{Data}
use Rattle.serde_json.specs.Find.{get, at}
use Rattle.sched_plan_check.specs.declared.places.Step.{Step}
use Rattle.sched_plan_check.specs.declared.places.Step.TheVariants.{Key, Index}

-- a step to the member of this name of an object, or to the item of this number of an array
pub data Into : Type 0 where
  key : List ℕ → Into
  index : ℕ → Into

-- a step as the code has it
abbrev pub step_of : Step → Into
step_of (Key name) = key name.now
step_of (Index i) = index i

abbrev pub place_of : List Step → List Into
place_of steps = map step_of steps

-- the value to which the steps lead, if there is one
abbrev pub value_at : List Into → Data → Option Data
value_at [] d = Some d
value_at (key name ∷ place) d = option_and_then (value_at place) (get name d)
value_at (index i ∷ place) d = option_and_then (value_at place) (at i d)
