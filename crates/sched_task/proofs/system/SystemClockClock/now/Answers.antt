-- The system's clock returns the moment of one reading of its source of time.
use Rattle.std.proofs.Common.{rules}
use Rattle.sched_task.specs.System.{reading_of}
use Rattle.sched_task.proofs.system.SystemClockClock.now.Goals as goal

pub returns : goal.returns
returns g c = (
  search rules,
  record { reading = reading_of c.read-reading.result; read = search rules; told = search rules; kept = search rules },
)
