-- A throttle that is made has the terms that were given.
use Rattle.std.proofs.Common.{inl}
use Rattle.hikebox_c.proofs.limits.throttle.Goals as goal

pub returns-in-Some : goal.returns-in-Some
returns-in-Some c = inl (c.in-Some.throttle, c.in-Some.ensures.some, c.throttle.ensures)
