-- What the contracts of `sched_storm_limit` cite.
pub mod Ranges
pub mod Limits
pub mod Words
pub mod States
