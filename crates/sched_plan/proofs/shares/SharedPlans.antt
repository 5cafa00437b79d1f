-- A shared plan may go to another thread, and threads may read it at once.
use denote.Param.Send.{IsSend, IsSync, sendable}
use Rattle.std.proofs.Crossing.{crosses}
use Rattle.sched_plan.proofs.sends.Plans.{plan_sends}
use Rattle.sched_plan.proofs.shares.Plans.{plan_shares}
use Rattle.sched_plan.specs.contracts.shared.SharedPlan as SharedPlan

pub shared_plan_sends : IsSend SharedPlan.the_row
shared_plan_sends = search (sendable, crosses, plan_sends, plan_shares) depth 40

pub shared_plan_shares : IsSync SharedPlan.the_row
shared_plan_shares = search (sendable, crosses, plan_sends, plan_shares) depth 40
