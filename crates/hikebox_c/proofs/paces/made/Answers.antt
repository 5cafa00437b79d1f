-- A pace of terms that are in range.
use Rattle.std.proofs.Common.{inl}
use Rattle.hikebox_c.proofs.paces.made.Goals as goal

pub returns-in-Some : goal.returns-in-Some
returns-in-Some c = inl (c.in-Some.pace, c.in-Some.ensures.some, c.pace.ensures)
