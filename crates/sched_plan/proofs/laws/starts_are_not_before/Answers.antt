-- No plan goes on before the event that it answers.
use Rattle.sched_plan.proofs.Starts.{starts_are_not_before}
use Rattle.sched_plan.proofs.laws.starts_are_not_before.Goals as goal

pub returns : goal.returns
returns c = starts_are_not_before
