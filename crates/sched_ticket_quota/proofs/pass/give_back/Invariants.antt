-- The loop changes nothing of the pass but what it read of tickets handed back.
use Rattle.std.proofs.Common.{◌≡◌, ◌<◌, ◌≤◌}
use Rattle.sched_ticket_quota.proofs.pass.give_back.Given as goal

abbrev pub invariant-loop : goal.invariant-loop
invariant-loop l = record {
  of : (l.seat.table_id ≡ l.fn.seat.table_id) × (l.seat.me.1 ≡ l.fn.seat.me.1);
  same : l.seat.me.0 ≡ record l.fn.seat.me.0 {
    back = l.seat.me.0.back;
    recalls = l.seat.me.0.recalls;
    losses = l.seat.me.0.losses;
  };
  later : l.fn.seat.me.0.back ≤ l.seat.me.0.back;
  back_is : l.seat.me.0.back ≡ l.back;
  recalled : l.fn.seat.me.0.recalls < l.seat.me.0.recalls;
  lost : l.seat.me.0.losses ≡ l.counter;
}
