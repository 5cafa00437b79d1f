-- A course of events, a plan's run along it, and its lines.
pub mod Course
pub mod Run
pub mod Lines
pub use Rattle.sched_plan.specs.Schedule
pub use Rattle.sched_plan.specs.History
pub use Rattle.sched_plan.specs.Answer
pub use Rattle.sched_plan.specs.Starts
pub use Rattle.sched_step.specs.Progress
pub use Rattle.sched_step.specs.StateOf
