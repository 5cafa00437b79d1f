-- What a board's jobs, ends and runs are.
pub mod Boards
pub mod Ends
pub mod Runs
pub use Rattle.sched_ticket.specs.View
pub use Rattle.sched_ticket.specs.Steps
pub use Rattle.sched_ticket.specs.Calls
pub use Rattle.sched_ticket.specs.Held
pub use Rattle.sched_ticket_draws.specs.Grants
pub use Rattle.sched_ticket_draws.specs.Budgets
pub use Rattle.sched_task_law.specs.Kind
pub use Rattle.sched_task_law.specs.Past
pub use Rattle.sched_task_law.specs.Law
pub use Rattle.sched_pool_claim.specs.Portion
pub use Rattle.sched_wheel.specs.Polled
pub use Rattle.sched_pool_worker.specs.Working
pub use Rattle.sched_pool_job.specs.Jobs
