-- The words that stand for a node's parameters.
use Rattle.std.specs.Prelude.{ℕ, List, [], ◌∷◌, codes}
use Rattle.sched_plan.specs.declared.nodes.Side.{Side}
use Rattle.sched_plan.specs.declared.nodes.Side.TheVariants.{Input, Output}
use Rattle.sched_plan.specs.declared.nodes.Test.{Test}
use Rattle.sched_plan.specs.declared.nodes.Test.TheVariants.{Below, AtLeast, Equal}
use Rattle.sched_plan.specs.declared.nodes.Fold.{Fold}
use Rattle.sched_plan.specs.declared.nodes.Fold.TheVariants as fold

-- the value that a gate tests
abbrev pub sides : List (List ℕ × Side)
sides =
    (codes "input", Input)
    ∷ (codes "output", Output)
    ∷ []

-- how a gate compares a number with its bound
abbrev pub tests : List (List ℕ × Test)
tests =
    (codes "below", Below)
    ∷ (codes "at_least", AtLeast)
    ∷ (codes "equal", Equal)
    ∷ []

-- what a gathering makes of the outputs
abbrev pub folds : List (List ℕ × Fold)
folds =
    (codes "sum", fold.Sum)
    ∷ (codes "count", fold.Count)
    ∷ (codes "max", fold.Max)
    ∷ (codes "list", fold.List)
    ∷ []
