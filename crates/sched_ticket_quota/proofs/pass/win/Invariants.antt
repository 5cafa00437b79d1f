-- The loop changes nothing of the pass but what it read of the quota.
use Rattle.std.proofs.Common.{◌≡◌, ◌+◌, ◌<◌, ◌≤◌}
use Rattle.sched_ticket_quota.proofs.pass.win.Given as goal

abbrev pub invariant-loop : goal.invariant-loop
invariant-loop l = record {
  of : (l.seat.table_id ≡ l.fn.seat.table_id) × (l.seat.me.1 ≡ l.fn.seat.me.1);
  same : l.seat.me.0 ≡ record l.fn.seat.me.0 {
    current = l.seat.me.0.current;
    seen = l.seat.me.0.seen;
    found = l.seat.me.0.found;
    back = l.seat.me.0.back;
    past = l.seat.me.0.past;
    readings = l.seat.me.0.readings;
    glances = l.seat.me.0.glances;
    recalls = l.seat.me.0.recalls;
    reviews = l.seat.me.0.reviews;
    looks = l.seat.me.0.looks;
    losses = l.seat.me.0.losses;
  };
  seen : l.fn.seat.me.0.seen ≤ l.seat.me.0.seen;
  back : l.fn.seat.me.0.back ≤ l.seat.me.0.back;
  found : l.seat.me.0.found ≡ l.drawn;
  looked : l.fn.seat.me.0.looks < l.seat.me.0.looks;
  lost : l.seat.me.0.losses ≡ l.counter;
  read : l.fn.seat.me.0.readings + l.counter ≤ l.seat.me.0.readings;
  glanced : l.fn.seat.me.0.glances + l.counter ≤ l.seat.me.0.glances;
  recalled : l.fn.seat.me.0.recalls ≤ l.seat.me.0.recalls;
  reviewed : l.fn.seat.me.0.reviews ≤ l.seat.me.0.reviews;
}
