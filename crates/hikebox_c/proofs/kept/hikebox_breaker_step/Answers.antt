-- A breaker that there is makes its step.
use Rattle.std.proofs.Common.{inl}
use Rattle.hikebox_c.proofs.kept.hikebox_breaker_step.Goals as goal

pub returns-in-Some-clause-does : goal.returns-in-Some-clause-does
returns-in-Some-clause-does c = λ _.
    inl (c.in-Some.breaker, c.in-Some.ensures.some, rw c.told.ensures at c.does.ensures)
