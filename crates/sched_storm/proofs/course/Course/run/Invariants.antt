-- Each turn is the first of those that are due, and takes a call or the end of one.
use Rattle.std.proofs.Common.{◌≡◌, ◌+◌, ◌-◌, ◌*◌}
use Rattle.sched_storm.specs.Arrivals.{all_requests}
use Rattle.sched_storm.specs.Course.{StandsFirst}
use Rattle.sched_storm.proofs.course.Course.run.Given as goal

abbrev pub invariant-loop-next : goal.invariant-loop-next
invariant-loop-next l = record {
  stands : StandsFirst l.self l.next;
  storm : l.self.storm ≡ l.fn.self.storm;
  arrivals : l.self.arrivals.now ≡ l.fn.self.arrivals.now;
  clients : l.self.clients ≡ l.fn.self.clients;
  of : l.self.reporter.of ≡ l.fn.self.reporter.of;
}

abbrev pub decreases-loop-next : goal.decreases-loop-next
decreases-loop-next l = 2 * l.self.storm.calls + all_requests l.self.arrivals.now l.self.storm + 1 -
    l.self.reporter.events
