-- Each part of a tree is smaller than the tree.
use Rattle.std.specs.Prelude.{◌≤◌, max}
use Rattle.std.proofs.Common.{arith}
use Rattle.sched_step.specs.ProgressSize.{progress_size}
use Rattle.sched_step.specs.Tree.{present_of}
use Rattle.sched_step.specs.declared.trees.TreeShape.{TreeShape}
use Rattle.sched_step.specs.declared.trees.TreeShape.TheVariants.{Leaf, One, Two}
use Rattle.sched_step.specs.declared.trees.Tree.TheDeep.{deep-TreeShape}

pub deep_le-progress_size : (s : TreeShape) → max (deep-TreeShape s) 0 ≤ progress_size (present_of s)
deep_le-progress_size (Leaf present next) = omega arith
deep_le-progress_size (One own tree) = omega arith
deep_le-progress_size (Two turns sides) = omega arith
