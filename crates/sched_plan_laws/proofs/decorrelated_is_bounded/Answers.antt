-- Each delay of `decorrelated` lies between its base and its longest delay.
use Rattle.sched_plan_laws.proofs.Delays.{decorrelated_is_bounded}
use Rattle.sched_plan_laws.proofs.decorrelated_is_bounded.Goals as goal

pub returns : goal.returns
returns c = decorrelated_is_bounded
