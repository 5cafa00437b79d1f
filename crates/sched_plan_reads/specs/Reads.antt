-- What a schedule's nodes read of an event beside its moment.
use Rattle.std.specs.Prelude.{ℕ, ◌+◌, Bool, true, false, ◌||◌, nat_eq, if◌then◌else◌}
use Rattle.sched_plan.specs.Schedule.{Schedule, leaf, one, two}
use Rattle.sched_plan.specs.declared.leaves.Leaf.{Leaf}
use Rattle.sched_plan.specs.declared.leaves.Leaf.TheVariants.{Decorrelated, Identity}
use Rattle.sched_plan.specs.declared.nodes.One.{One}
use Rattle.sched_plan.specs.declared.nodes.One.TheVariants.{Gate, Jitter}
use Rattle.sched_plan.specs.declared.nodes.Side.{Side}
use Rattle.sched_plan.specs.declared.nodes.Side.TheVariants.{Input, Output}

-- a recurrence of its own picks its delay by the random word of this lane
abbrev pub leaf_reads_lane : ℕ → Leaf → Bool
leaf_reads_lane lane (Decorrelated own base thousandths most) = nat_eq own lane
leaf_reads_lane lane _ = false

-- a node over one schedule does
abbrev pub one_reads_lane : ℕ → One → Bool
one_reads_lane lane (Jitter own least most) = nat_eq own lane
one_reads_lane lane _ = false

-- a node of the schedule does
abbrev pub reads_lane : ℕ → Schedule → Bool
reads_lane lane (leaf l) = leaf_reads_lane lane l
reads_lane lane (one k a) = one_reads_lane lane k || reads_lane lane a
reads_lane lane (two k a b) = reads_lane lane a || reads_lane lane b

-- a recurrence of its own gives the input out
abbrev pub leaf_reads_input : Leaf → Bool
leaf_reads_input Identity = true
leaf_reads_input _ = false

-- a node over one schedule tests the input
abbrev pub side_is_input : Side → Bool
side_is_input Input = true
side_is_input Output = false

abbrev pub one_reads_input : One → Bool
one_reads_input (Gate side want test bound) = side_is_input side
one_reads_input _ = false

-- A node of the schedule reads an input: the event's, or, on the right of a `feed`, the output on its left.
abbrev pub reads_input : Schedule → Bool
reads_input (leaf l) = leaf_reads_input l
reads_input (one k a) = one_reads_input k || reads_input a
reads_input (two k a b) = reads_input a || reads_input b

-- the weight of what is read, and 0 of what is not
abbrev pub weighed : Bool → ℕ → ℕ
weighed read weight = if read then weight else 0

-- what a schedule reads, as one number
abbrev pub reads_of : Schedule → ℕ
reads_of s =
    weighed (reads_lane 0 s) 1 + weighed (reads_lane 1 s) 2 + weighed (reads_lane 2 s) 4 + weighed (reads_lane 3 s) 8
    + weighed (reads_input s) 16
