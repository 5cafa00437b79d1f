-- What lasts from turn to turn of a step: the pass's table and counts, and the word that it saw last.
use Rattle.std.proofs.Common.{◌≡◌, ◌+◌}
use Rattle.sched_limit_word.proofs.pass.step.Given as goal

abbrev pub invariant-loop : goal.invariant-loop
invariant-loop g l = record {
  of : (l.seat.table_id ≡ l.fn.seat.table_id) × (l.seat.me.1 ≡ l.fn.seat.me.1);
  same : l.seat.me.0 ≡ record l.fn.seat.me.0 {
    seen = l.seat.me.0.seen;
    looks = l.seat.me.0.looks;
    losses = l.seat.me.0.losses;
  };
  seen : l.seat.me.0.seen ≡ l.word;
  looked : l.seat.me.0.looks ≡ l.fn.seat.me.0.looks + 1;
  lost : l.seat.me.0.losses ≡ l.counter;
}
