-- The definitions that callers of tasks cite.
pub use Rattle.sched_time.specs.Capped
pub use Rattle.sched_time.specs.Decision
pub use Rattle.sched_plan.specs.Datum
pub use Rattle.sched_plan.specs.Schedule
pub use Rattle.sched_plan.specs.History
pub use Rattle.sched_plan.specs.Answer
pub use Rattle.sched_driver.specs.Driven
pub use Rattle.sched_driver.specs.Driver
pub use Rattle.sched_driver_stepper.specs.Standing
pub use Rattle.sched_ticket.specs.Held
pub use Rattle.sched_ticket_quota.specs.Held as QuotaHeld
pub use Rattle.sched_ticket_quota.specs.Calls as QuotaCalls
pub use Rattle.sched_ticket_draws.specs.Counted
pub use Rattle.sched_ticket_draws.specs.Grants
pub use Rattle.sched_ticket_draws.specs.Budgets
pub use Rattle.sched_ticket_draws.specs.Quotas
pub use Rattle.sched_ticket_draws.specs.Freely
pub use Rattle.sched_task.specs.Course
pub use Rattle.sched_task.specs.Words
pub use Rattle.sched_task.specs.System
pub use Rattle.sched_effect.specs.Runs
pub use Rattle.sched_effect.specs.Called
pub use Rattle.sched_task_law.specs.Deadline
pub use Rattle.sched_task_law.specs.Kind
pub use Rattle.sched_task_law.specs.Past
pub use Rattle.sched_task_law.specs.Law
pub use Rattle.sched_run_machine.specs.Drives
pub use Rattle.sched_run_machine.specs.Retrying
pub use Rattle.sched_retry.specs.Ending
pub use Rattle.sched_retry_or.specs.Falling
pub use Rattle.sched_retry_or.specs.Ending as FallbackEnding
