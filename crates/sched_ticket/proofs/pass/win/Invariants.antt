-- The loop changes the pass by what it found alone: a number below the floor, or a refusal. It ends at the limit.
use Rattle.std.proofs.Common.{◌≡◌, ◌-◌, ◌<◌, ◌≤◌}
use Rattle.sched_ticket.specs.View.{with_found, with_refusal}
use Rattle.sched_ticket.proofs.pass.win.Given as goal

abbrev pub invariant-loop-drawn : goal.invariant-loop-drawn
invariant-loop-drawn l = record {
  of : (l.seat.table_id ≡ l.fn.seat.table_id) × (l.seat.me.1 ≡ l.fn.seat.me.1);
  below : l.drawn < l.fn.seat.me.0.floor → l.seat.me.0 ≡ with_found l.fn.seat.me.0 l.drawn;
  high : l.fn.seat.me.0.floor ≤ l.drawn → l.seat.me.0 ≡ with_refusal l.fn.seat.me.0 l.drawn;
}

abbrev pub decreases-loop-drawn : goal.decreases-loop-drawn
decreases-loop-drawn l = l.limit - l.drawn
