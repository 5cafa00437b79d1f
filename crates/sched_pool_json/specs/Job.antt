-- What a job is: a plan and a script of runs.
use Rattle.std.specs.Prelude.{List}
use Rattle.sched_plan.specs.Schedule.{Schedule}
use Rattle.sched_effect.specs.declared.ran.Ran.{Ran}

-- a plan, and how the runs go that are retried by it, the last outcome repeated
pub record Job : Type 0 where
  pub plan : Schedule
  pub script : List Ran
