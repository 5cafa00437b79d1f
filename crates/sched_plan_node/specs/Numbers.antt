-- How many numbers a node is given.
use Rattle.std.specs.Prelude.{ℕ, List, [], ◌∷◌}
use Rattle.sched_plan_node.specs.declared.numbers.Numbers.{Numbers}
use Rattle.sched_plan_node.specs.declared.numbers.Numbers.TheVariants.{Zero, One, Two, Three, Four, More}

abbrev pub numbers_in : List ℕ → Numbers
numbers_in [] = Zero
numbers_in (n ∷ []) = One n
numbers_in (n ∷ m ∷ []) = Two n m
numbers_in (n ∷ m ∷ k ∷ []) = Three n m k
numbers_in (n ∷ m ∷ k ∷ l ∷ []) = Four n m k l
numbers_in (n ∷ m ∷ k ∷ l ∷ o ∷ more) = More
