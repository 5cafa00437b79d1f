-- Nodes as the code reads them, by what their own forms spell. bin/nodes makes leaf_of and one_of.
use Rattle.std.specs.Prelude.{◌≡◌, ◌<◌, ℕ, Option, Some, Result, Ok, Err}
use Rattle.serde_json.specs.Data.{depth}
use Rattle.serde_json.specs.View.{view}
use Rattle.sched_plan.specs.declared.leaves.Leaf.{Leaf}
use Rattle.sched_plan.specs.declared.leaves.Leaf.TheVariants as leaf
use Rattle.sched_plan.specs.declared.nodes.One.{One}
use Rattle.sched_plan.specs.declared.nodes.One.TheVariants as plan
use Rattle.sched_plan_json.specs.declared.faults.ReadFault.{ReadFault}
use Rattle.sched_plan_json.specs.declared.leaves.LeafNode.{LeafNode}
use Rattle.sched_plan_json.specs.declared.leaves.LeafNode.TheVariants as bare
use Rattle.sched_plan_json.specs.declared.nodes.OneNode.{OneNode}
use Rattle.sched_plan_json.specs.declared.nodes.OneNode.TheVariants as read
use Rattle.sched_plan_json.specs.declared.nodes.Node.{Node}
use Rattle.sched_plan_json.specs.declared.nodes.Node.TheVariants.{Leaf as Alone, One as Single, Two}
use Rattle.sched_plan_json.specs.Forms.{Spelt, LacksForm, of_leaf, over_one, over_two}
use Rattle.sched_plan_json.specs.PlanOf.{part_of}

-- the leaf that was read
abbrev pub leaf_of : LeafNode → Leaf
leaf_of bare.Forever = leaf.Forever
leaf_of (bare.Recurs count) = leaf.Recurs count
leaf_of (bare.Spaced delay) = leaf.Spaced delay
leaf_of (bare.Fixed length) = leaf.Fixed length
leaf_of (bare.Windowed length) = leaf.Windowed length
leaf_of (bare.Linear delay) = leaf.Linear delay
leaf_of (bare.Exponential base factor) = leaf.Exponential base factor
leaf_of (bare.ExponentialMilli base thousandths) = leaf.ExponentialMilli base thousandths
leaf_of (bare.Fibonacci delay) = leaf.Fibonacci delay
leaf_of (bare.Decorrelated lane base thousandths most) = leaf.Decorrelated lane base thousandths most
leaf_of bare.Elapsed = leaf.Elapsed
leaf_of bare.Identity = leaf.Identity
leaf_of (bare.Unfold seed factor more) = leaf.Unfold seed factor more
leaf_of (bare.Lone delay) = leaf.Lone delay

-- what the node makes of one plan
abbrev pub one_of : OneNode → One
one_of (read.Gate side want test bound) = plan.Gate side want test bound
one_of (read.Gather fold) = plan.Gather fold
one_of (read.Add delay) = plan.Add delay
one_of (read.Set delay) = plan.Set delay
one_of (read.Cap delay) = plan.Cap delay
one_of read.AddOut = plan.AddOut
one_of (read.Jitter lane least most) = plan.Jitter lane least most
one_of (read.Within length) = plan.Within length
one_of (read.EndsBy length) = plan.EndsBy length
one_of (read.Renew length) = plan.Renew length
one_of (read.RenewIdle length) = plan.RenewIdle length
one_of read.First = plan.First
one_of read.Second = plan.Second
one_of read.Nothing = plan.Nothing

-- a leaf that was read is the one that is spelt; if none was, the form of a node is lacking
abbrev pub IsLeaf : Result LeafNode ReadFault → Option Spelt → Type 0
IsLeaf (Ok l) spelt = spelt ≡ Some (of_leaf (leaf_of l))
IsLeaf (Err fault) spelt = LacksForm spelt fault

-- a node that was read is the one that is spelt: one over plans has the values that spell them
abbrev pub IsNode : Result Node ReadFault → Option Spelt → Type 0
IsNode (Ok (Alone l)) spelt = IsLeaf (Ok l) spelt
IsNode (Ok (Single k a)) spelt = spelt ≡ Some (over_one (one_of k) (part_of (view a.now)))
IsNode (Ok (Two k a b)) spelt = spelt ≡ Some (over_two k (part_of (view a.now)) (part_of (view b.now)))
IsNode (Err fault) spelt = IsLeaf (Err fault) spelt

-- the values that spell its plans nest less deep than this
abbrev pub NestsBelow : Node → ℕ → Type 0
NestsBelow (Alone l) n = Unit {0}
NestsBelow (Single k a) n = depth (view a.now) < n
NestsBelow (Two k a b) n = (depth (view a.now) < n) × (depth (view b.now) < n)
