-- The inputs so far are in range.
use Rattle.std.proofs.Common.{take}
use Rattle.std.specs.List.{All}
use Rattle.hikebox_c.specs.Courses.{InputIsInRange}
use Rattle.hikebox_c.proofs.courses.inputs_are_in_range.Given as goal

-- those so far are in range
abbrev pub invariant-loop-event : goal.invariant-loop-event
invariant-loop-event l = All InputIsInRange (take l.event-index l.events)
