-- A poll of a job is one of its retry, by the journal that it keeps.
use Rattle.sched_ticket_draws.specs.Budgets.{budget_grants}
use Rattle.sched_task_law.specs.Kind.{retry}
use Rattle.sched_run_machine.proofs.Driven.{driven_poll}
use Rattle.sched_pool_job.proofs.jobs.JobTask.poll_at.Goals as goal

pub returns-clause-poll : goal.returns-clause-poll
returns-clause-poll g c =
    rw (← c.self.view_is) (driven_poll budget_grants retry c.self.inside.retry c.args.tick.now _ c.poll_at.new.self
    c.poll_at.ensures.poll)
