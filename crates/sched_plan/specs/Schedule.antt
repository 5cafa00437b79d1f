-- Recurrence schedules as plain data.
use Rattle.std.specs.Prelude.{ℕ, ◌+◌, max, Bool, true, ◌&&◌, nat_le}
use Rattle.sched_plan.specs.declared.leaves.Leaf.{Leaf}
use Rattle.sched_plan.specs.declared.leaves.Leaf.TheVariants.{Forever, Recurs, Spaced, Fixed, Windowed, Linear}
use Rattle.sched_plan.specs.declared.leaves.Leaf.TheVariants.{Exponential, ExponentialMilli, Fibonacci, Decorrelated}
use Rattle.sched_plan.specs.declared.leaves.Leaf.TheVariants.{Elapsed, Identity, Unfold, Lone}
use Rattle.sched_plan.specs.declared.nodes.One.{One}
use Rattle.sched_plan.specs.declared.nodes.One.TheVariants.{Gate, Gather, Add, Set, Cap, AddOut, Jitter, Within, EndsBy}
use Rattle.sched_plan.specs.declared.nodes.One.TheVariants.{Renew, RenewIdle, First, Second, Nothing}
use Rattle.sched_plan.specs.declared.nodes.Two.{Two}
use Rattle.sched_time.specs.declared.numbers.TheConstants.{FAR}

pub data Schedule : Type 0 where
  -- a recurrence of its own
  leaf : Leaf → Schedule
  -- what the node makes of one schedule
  one : One → Schedule → Schedule
  -- what the node makes of two schedules
  two : Two → Schedule → Schedule → Schedule

-- how many nodes the schedule has
abbrev pub nodes_of : Schedule → ℕ
nodes_of (leaf l) = 1
nodes_of (one k a) = nodes_of a + 1
nodes_of (two k a b) = nodes_of a + nodes_of b + 1

-- how deep the nodes nest; a leaf has depth 1
abbrev pub depth_of : Schedule → ℕ
depth_of (leaf l) = 1
depth_of (one k a) = depth_of a + 1
depth_of (two k a b) = max (depth_of a) (depth_of b) + 1

-- the parameters of a leaf are in their ranges
abbrev pub leaf_in_range : Leaf → Bool
leaf_in_range Forever = true
leaf_in_range (Recurs count) = nat_le count FAR
leaf_in_range (Spaced delay) = nat_le delay FAR
leaf_in_range (Fixed length) = nat_le 1 length && nat_le length FAR
leaf_in_range (Windowed length) = nat_le 1 length && nat_le length FAR
leaf_in_range (Linear delay) = nat_le delay FAR
leaf_in_range (Exponential base factor) = nat_le base FAR && (nat_le 1 factor && nat_le factor 1000)
leaf_in_range (ExponentialMilli base thousandths) =
    nat_le base FAR && (nat_le 1 thousandths && nat_le thousandths 1000000)
leaf_in_range (Fibonacci delay) = nat_le delay FAR
leaf_in_range (Decorrelated lane base thousandths most) =
    nat_le lane 3 && ((nat_le 1000 thousandths && nat_le thousandths 1000000) && (nat_le base most && nat_le most FAR))
leaf_in_range Elapsed = true
leaf_in_range Identity = true
leaf_in_range (Unfold seed factor more) = nat_le seed FAR && (nat_le factor FAR && nat_le more FAR)
leaf_in_range (Lone delay) = nat_le delay FAR

-- the parameters of a node over one schedule are in their ranges
abbrev pub one_in_range : One → Bool
one_in_range (Gate side want test bound) = nat_le bound FAR
one_in_range (Gather fold) = true
one_in_range (Add delay) = nat_le delay FAR
one_in_range (Set delay) = nat_le delay FAR
one_in_range (Cap delay) = nat_le delay FAR
one_in_range AddOut = true
one_in_range (Jitter lane least most) = nat_le lane 3 && (nat_le least most && nat_le most 10000)
one_in_range (Within length) = nat_le length FAR
one_in_range (EndsBy length) = nat_le length FAR
one_in_range (Renew length) = nat_le 1 length && nat_le length FAR
one_in_range (RenewIdle length) = nat_le 1 length && nat_le length FAR
one_in_range First = true
one_in_range Second = true
one_in_range Nothing = true

-- the parameters of the schedule's own node are in their ranges; a node over two schedules has none
abbrev pub node_in_range : Schedule → Bool
node_in_range (leaf l) = leaf_in_range l
node_in_range (one k a) = one_in_range k
node_in_range (two k a b) = true

-- the parameters of every node are in their ranges
abbrev pub is_valid : Schedule → Bool
is_valid (leaf l) = leaf_in_range l
is_valid (one k a) = one_in_range k && is_valid a
is_valid (two k a b) = is_valid a && is_valid b
