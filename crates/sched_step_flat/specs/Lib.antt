-- The words that stand for a plan's state, which plans have them, and one step on them.
pub mod Words
pub mod Parts
pub mod FlatStep
pub mod Record
pub use Rattle.sched_time.specs.Decision
pub use Rattle.sched_plan.specs.Datum
pub use Rattle.sched_plan.specs.Schedule
pub use Rattle.sched_plan.specs.History
pub use Rattle.sched_plan.specs.Answer
pub use Rattle.sched_step.specs.Progress
pub use Rattle.sched_step.specs.StateOf
