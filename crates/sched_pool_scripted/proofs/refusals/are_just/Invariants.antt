-- The ends so far are just.
use Rattle.std.specs.Prelude.{All, take}
use Rattle.sched_pool_scripted.specs.QuotaBatch.{IsJust}
use Rattle.sched_pool_scripted.proofs.refusals.are_just.Given as goal

abbrev pub invariant-loop-end : goal.invariant-loop-end
invariant-loop-end l = All (IsJust l.terms l.requests l.windows) (take l.end-index l.ends)
