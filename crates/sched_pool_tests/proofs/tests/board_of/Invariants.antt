-- The loop keeps a pass of the budget and an unsealed board.
use Rattle.std.proofs.Common.{◌≡◌, None}
use Rattle.sched_pool.specs.Held.{IsOf}
use Rattle.sched_pool_tests.proofs.tests.board_of.Given as goal

abbrev pub invariant-loop-number : goal.invariant-loop-number
invariant-loop-number g l = record {
  of : IsOf l.budget l.pass;
  unsealed : l.board.claims ≡ None;
}
