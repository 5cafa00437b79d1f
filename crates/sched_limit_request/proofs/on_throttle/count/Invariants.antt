-- What lasts from turn to turn: the limits of both windows, and the turns so far.
use Rattle.sched_limit_request.specs.Sides.{IsSameSide}
use Rattle.sched_limit_request.specs.Windows.{Leads, views}
use Rattle.sched_limit_request.proofs.on_throttle.count.Given as goal

abbrev pub invariant-loop : goal.invariant-loop
invariant-loop l = record {
  even : IsSameSide l.fn.even l.even;
  odd : IsSameSide l.fn.odd l.odd;
  leads : Leads l.fn.even.limit.machine l.told l.random l.fn.now (views l.fn.even.pass l.fn.odd.pass) l.counter l.at
      (views l.even.pass l.odd.pass);
}
