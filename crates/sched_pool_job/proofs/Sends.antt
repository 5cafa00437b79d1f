-- A job may go to another thread where its effect may, and what that gives.
use denote.Param.Send.{IsSend, sendable}
use Rattle.std.proofs.Crossing.{crosses}
use Rattle.sched_driver.proofs.Sends.{driver_sends}
use Rattle.sched_ticket.proofs.pass.Pass.TheSendSync as pass
use Rattle.sched_ticket.proofs.budget.Budget.TheSendSync as budget
use Rattle.sched_ticket_draws.specs.contracts.on_budget.OnBudget as OnBudget
use Rattle.sched_run_machine.specs.contracts.machine.Machine as Machine
use Rattle.sched_run_machine.specs.contracts.runner.Runner as Runner
use Rattle.sched_retry.specs.contracts.reruns.Rerun as Rerun
use Rattle.sched_pool_job.specs.contracts.jobs.Job as Job

runner_sends : (X I F : _) (e ic fc : _) → IsSend X → IsSend (Runner.the_row X I F e ic fc)
runner_sends X I F e ic fc x = search (sendable, crosses) depth 60

machine_sends : (R D A : _) (r d a : _) → IsSend R → IsSend D → IsSend A → IsSend (Machine.the_row R D A r d a)
machine_sends R D A r d a s p q = search (sendable, crosses) depth 60

drawing_sends : (B : _) (r : _) → IsSend B → IsSend (OnBudget.the_row B r)
drawing_sends B r b = search (sendable, crosses, pass.the_send) depth 60

rerun_sends : (X D R A I F : _) (e ic fc d r a : _) → IsSend X → IsSend D → IsSend R → IsSend A → IsSend I → IsSend F →
    IsSend (Rerun.the_row X D R A I F e ic fc d r a)
rerun_sends X D R A I F e ic fc d r a x sd sr sa i f = search (sendable, crosses, runner_sends, machine_sends) depth 60

pub job_sends : (κ : _) (X N I F : _) (e ic fc n : _) → IsSend X → IsSend N → IsSend I → IsSend F →
    IsSend (Job.the_row κ X N I F e ic fc n)
job_sends κ X N I F e ic fc n x sn i f = search (
  sendable,
  crosses,
  rerun_sends,
  driver_sends,
  drawing_sends,
  budget.the_sync,
) depth 60
