-- The last of the keys that are ready is taken.
use Rattle.std.proofs.Common.{arith}
use Rattle.sched_calendar.proofs.Least.{taken_last}
use Rattle.sched_calendar.proofs.calendar.Calendar.take_ready.Goals as goal

pub returns : goal.returns
returns c = λ k.
    let old = c.args.self.now.ready.items in
    let taken = taken_last old c.pop.new.self.items c.pop.result c.args.key c.pop.ensures.items
    (λ some. c.pop.ensures.variant.1 (omega (arith, c.args.self.now.ready.ok))) c.args.self.now.descend c.requires k in
    omega arith
