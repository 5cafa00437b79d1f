-- Building the tree ends, since each call has a smaller depth.
use Rattle.bench.proofs.steps.+tree.Given as goal

abbrev pub decreases-tree : goal.decreases-tree
decreases-tree l = l.depth
