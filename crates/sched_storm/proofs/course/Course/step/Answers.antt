-- The turn that is taken out is least due, and may be played.
use Rattle.sched_storm.proofs.Ready.{ready, driven, step_after}
use Rattle.sched_storm.proofs.course.Course.step.Goals as goal

pub play-requires-clause-ready : goal.play-requires-clause-ready
play-requires-clause-ready c = ready c.args.self.now c.args.turn c.requires.first

pub play-requires-clause-placed : goal.play-requires-clause-placed
play-requires-clause-placed c = c.requires.first.stands.out.placed

pub play-requires-clause-may : goal.play-requires-clause-may
play-requires-clause-may c = driven c.args.self.now c.args.turn c.requires.first

pub returns-clause-after : goal.returns-clause-after
returns-clause-after c =
    step_after c.args.self.now c.args.turn c.requires.first c.play.new.self c.in_ok-next.next
    c.in_ok-next.ensures.answered
    c.in_ok-next.ensures.rests c.in_ok-next.ensures.counts c.requires.room
