-- What is taken is least due.
use Rattle.sched_storm.specs.Course.{keys_of}
use Rattle.sched_storm.proofs.Taken.{take_out, take_none, first_fits}
use Rattle.sched_storm.proofs.course.Course.take_next.Goals as goal

pub pop_before-requires : goal.pop_before-requires
pop_before-requires c = first_fits c.args.self.now c.requires c.next_request-first.result c.next_request-first.ensures

pub returns-in-Some-clause-first : goal.returns-in-Some-clause-first
returns-in-Some-clause-first c =
    take_out c.args.self.now c.pop_before.new.self c.requires c.next_request-first.result c.in-Some.turn
    c.next_request-first.ensures
    (c.in-Some.ensures.some (keys_of c.requires.held) c.requires.holds)

pub returns-in-None-clause-first : goal.returns-in-None-clause-first
returns-in-None-clause-first c =
    take_none c.args.self.now c.pop_before.new.self c.requires
    (c.in-None.ensures.none (keys_of c.requires.held) c.requires.holds) c.next_request-first.result
    c.next_request-first.ensures
    (c.in-None.ensures.first (keys_of c.requires.held) c.requires.holds)
