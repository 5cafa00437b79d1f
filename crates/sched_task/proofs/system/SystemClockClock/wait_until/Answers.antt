-- A wait on the system's clock reads its source first, and sleeps where the moment is not reached.
use Rattle.std.proofs.Common.{rules, inl, inr}
use Rattle.sched_task.proofs.system.SystemClockClock.wait_until.Goals as goal

pub returns-then-get : goal.returns-then-get
returns-then-get g c = (
  search rules,
  record { first = c.now-first.result; early = c.now-first.new.self; read = search rules; woke = inl (search rules) },
)

pub returns : goal.returns
returns g c = (
  search rules,
  record {
    first = c.now-first.result;
    early = c.now-first.new.self;
    read = search rules;
    woke = inr (search rules, (c.sleep.new.self, search rules, search rules));
  },
)
