-- Which part of an output is read, and the schedules whose words are enough to tell what is read.
use Rattle.std.specs.Prelude.{ℕ, Bool, true, false, ◌&&◌, Option, Some, None}
use Rattle.sched_plan.specs.Datum.{Datum, unit, num, as_number, first_part, second_part}
use Rattle.sched_plan.specs.Schedule.{Schedule, leaf, one, two}
use Rattle.sched_plan.specs.declared.leaves.Leaf.{Leaf}
use Rattle.sched_plan.specs.declared.leaves.Leaf.TheVariants.{Identity}
use Rattle.sched_plan.specs.declared.nodes.Side.TheVariants.{Output}
use Rattle.sched_plan.specs.declared.nodes.Fold.TheVariants.{Sum, Count, Max, List as Listing}
use Rattle.sched_plan.specs.declared.nodes.One.{One}
use Rattle.sched_plan.specs.declared.nodes.One.TheVariants.{Gate, Gather, AddOut, First, Second, Nothing}
use Rattle.sched_plan.specs.declared.nodes.Two.{Two}
use Rattle.sched_plan.specs.declared.nodes.Two.TheVariants.{Meet, Join, Follow, Feed}
use Rattle.sched_step_flat.specs.declared.parts.Part.{Part}
use Rattle.sched_step_flat.specs.declared.parts.Part.TheVariants.{Unread, Whole, FirstOf, SecondOf}

-- the number that is read of an output, if there is one
abbrev pub wanted : Part → Datum → Option ℕ
wanted Unread output = None
wanted Whole output = as_number output
wanted FirstOf output = as_number (first_part output)
wanted SecondOf output = as_number (second_part output)

-- a number that may be none, as a value
abbrev pub number_datum : Option ℕ → Datum
number_datum None = unit
number_datum (Some n) = num n

-- this number where the part is the whole, and none where it is unread or a part of a pair
abbrev pub if_whole : Part → Option ℕ → Option ℕ
if_whole Whole number = number
if_whole part number = None

-- the first or second part, where the whole of a pick is read
abbrev pub picking : Part → Part → Part
picking part Whole = part
picking part wants = Unread

-- what is read of the output of the schedule under a node, where this is read of the node's
abbrev pub under : One → Part → Part
under (Gate Output want test bound) part = Whole
under (Gather Sum) part = Whole
under (Gather Count) part = Unread
under (Gather Max) part = Whole
under (Gather Listing) part = Unread
under AddOut part = Whole
under First part = picking FirstOf part
under Second part = picking SecondOf part
under Nothing part = Unread
under k part = part

-- whether a node reads the output of the schedule under it, where nothing is read of the node's
abbrev pub reads_output : One → Bool
reads_output (Gate Output want test bound) = true
reads_output (Gather Sum) = true
reads_output (Gather Max) = true
reads_output AddOut = true
reads_output k = false

-- what is read of a pair's first output, where this is read of the pair
abbrev pub of_first : Part → Part
of_first FirstOf = Whole
of_first part = Unread

abbrev pub of_second : Part → Part
of_second SecondOf = Whole
of_second part = Unread

-- what is read of the output of the first of two schedules
abbrev pub first_wants : Two → Part → Part
first_wants Meet part = of_first part
first_wants Join part = of_first part
first_wants Follow part = part
first_wants Feed part = Whole

-- what is read of the output of the second
abbrev pub second_wants : Two → Part → Part
second_wants Meet part = of_second part
second_wants Join part = of_second part
second_wants Follow part = part
second_wants Feed part = part

-- no part of a pair is read
abbrev pub is_undivided : Part → Bool
is_undivided Unread = true
is_undivided Whole = true
is_undivided FirstOf = false
is_undivided SecondOf = false

-- one number of the leaf's output is all that is read of it; the input is the only pair that a leaf may give
abbrev pub leaf_is_flat : Leaf → Part → Bool
leaf_is_flat Identity part = is_undivided part
leaf_is_flat l part = true

-- one number of the output under the node is all that is read of it
abbrev pub one_is_flat : One → Part → Bool
one_is_flat (Gate Output want test bound) part = is_undivided part
one_is_flat AddOut part = is_undivided part
one_is_flat First part = is_undivided part
one_is_flat Second part = is_undivided part
one_is_flat k part = true

-- One number, or none, is all that is read of each output of the schedule, where this part of its own is read.
abbrev pub is_flat : Schedule → Part → Bool
is_flat (leaf l) part = leaf_is_flat l part
is_flat (one k a) part = one_is_flat k part && is_flat a (under k part)
is_flat (two k a b) part = is_flat a (first_wants k part) && is_flat b (second_wants k part)
