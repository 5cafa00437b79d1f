-- The definitions that the contracts of `sched_step` cite: how far a schedule has come, and one step of it.
pub mod Progress
pub mod ProgressCode
pub mod ProgressSize
pub mod Phases
pub mod Listed
pub mod Kept
pub mod Tree
pub mod TreeFalls
pub mod StateOf
pub mod Step
pub use Rattle.sched_plan.specs.Datum
pub use Rattle.sched_plan.specs.Schedule
pub use Rattle.sched_plan.specs.History
pub use Rattle.sched_plan.specs.Answer
pub use Rattle.sched_plan.specs.Starts
