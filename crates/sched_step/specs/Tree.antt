-- What a tree is, and what it will be once the step under way is taken.
use Rattle.sched_step.specs.Progress.{Progress, at_leaf, at_one, at_two}
use Rattle.sched_step.specs.Phases.{Phases}
use Rattle.sched_step.specs.declared.turns.Turns.{Turns}
use Rattle.sched_step.specs.declared.turns.Moves.{Moves}
use Rattle.sched_step.specs.declared.turns.Moves.TheVariants.{Both, OnlyFirst, OnlySecond}
use Rattle.sched_step.specs.declared.trees.TreeShape.{TreeShape}
use Rattle.sched_step.specs.declared.trees.TreeShape.TheVariants.{Leaf, One, Two}

-- the first side after the step: as before where it doesn't move
abbrev pub first_next : Moves → Phases → Progress
first_next Both s = s.next
first_next OnlyFirst s = s.next
first_next OnlySecond s = s.present

-- the second side after the step
abbrev pub second_next : Moves → Phases → Progress
second_next Both s = s.next
second_next OnlyFirst s = s.present
second_next OnlySecond s = s.next

-- what a node over two schedules is, from whose turn it is and from both sides
abbrev pub present_two : Turns → Phases × Phases → Progress
present_two turns sides = at_two turns.present sides.0.present sides.1.present

-- what it will be
abbrev pub next_two : Turns → Phases × Phases → Progress
next_two turns sides = at_two turns.next (first_next turns.moves sides.0) (second_next turns.moves sides.1)

abbrev pub present_of : TreeShape → Progress
present_of (Leaf present next) = at_leaf present
present_of (One own tree) = at_one own.present tree.value.present
present_of (Two turns sides) = present_two turns sides.value

abbrev pub next_of : TreeShape → Progress
next_of (Leaf present next) = at_leaf next
next_of (One own tree) = at_one own.next tree.value.next
next_of (Two turns sides) = next_two turns sides.value

abbrev pub phases_of : TreeShape → Phases
phases_of s = record { present = present_of s; next = next_of s }
