-- Each turn takes one seat more, for the next job of the share.
use Rattle.std.proofs.Common.{arith}
use Rattle.std.proofs.lemmas.Grind.{common_steps}
use Rattle.sched_pool_worker.proofs.Closings.{numbers_more}
use Rattle.sched_pool_worker.proofs.works.take_seats.Goals as goal

pub loop-number-preserved : goal.loop-number-preserved
loop-number-preserved g c =
    let before = c.loop-number.invariant in
    record {
      numbers = rw c.push_reserved.ensures.items (numbers_more _ _ _ _ 0 before.numbers (omega arith) c.take.ensures);
      counted = grind (arith, common_steps);
      room = grind (arith, common_steps);
    }
