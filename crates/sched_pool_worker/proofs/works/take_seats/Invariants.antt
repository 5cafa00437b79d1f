-- The seats so far are for the share's first jobs, in order.
use Rattle.std.proofs.Common.{◌≡◌, length, take, vec_len, vec_capacity}
use Rattle.sched_pool_worker.specs.Working.{numbers}
use Rattle.sched_pool_worker.proofs.works.take_seats.Given as goal

abbrev pub invariant-loop-number : goal.invariant-loop-number
invariant-loop-number g l = record {
  numbers : numbers l.seats.items ≡ take l.number-index l.active;
  counted : vec_len l.seats ≡ l.number-index;
  room : vec_capacity l.seats ≡ length l.active;
}
