-- The share has the jobs of the open seats and those past the seats.
use Rattle.std.proofs.Common.{◌≡◌, ◌++◌, drop, vec_len}
use Rattle.sched_pool_worker.specs.Working.{open_numbers}
use Rattle.sched_pool_worker.proofs.Closings.{IsClosing}
use Rattle.sched_pool_worker.proofs.works.close_over.Given as goal

abbrev pub invariant-loop-seat : goal.invariant-loop-seat
invariant-loop-seat g l = record {
  pass : l.share.pass ≡ l.fn.share.pass;
  closing : IsClosing l.seats.items l.share.active
      (open_numbers l.fn.seats.items ++ drop (vec_len l.fn.seats) l.fn.share.active);
}

abbrev pub decreases-loop-seat : goal.decreases-loop-seat
decreases-loop-seat g l = vec_len l.seats
