-- Where a stepper stands after its events, and what its methods do.
pub mod Standing
pub mod Kept
pub mod Stepper
pub use Rattle.sched_time.specs.Decision
pub use Rattle.sched_plan.specs.Datum
pub use Rattle.sched_plan.specs.Schedule
pub use Rattle.sched_plan.specs.History
pub use Rattle.sched_plan.specs.Answer
pub use Rattle.sched_step.specs.Progress
pub use Rattle.sched_step.specs.StateOf
pub use Rattle.sched_step.specs.Starts
pub use Rattle.sched_step_flat.specs.Record
