-- A job that gives up stays one.
use Rattle.sched_pool_job.proofs.Kept.{cancels}
use Rattle.sched_pool_job.proofs.jobs.JobTask.cancel.Goals as goal

pub invariant_of-self : goal.invariant_of-self
invariant_of-self g c =
    cancels g.N.Naming.budget c.self.inside.retry c.cancel.new.self c.self.invariant c.cancel.ensures
