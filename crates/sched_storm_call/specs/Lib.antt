-- What the contract of the call that plays a storm cites.
pub mod Told
pub mod Plays
pub use Rattle.sched_storm.specs.Parameters
pub use Rattle.sched_storm.specs.Arrivals
pub use Rattle.sched_storm.specs.Report
