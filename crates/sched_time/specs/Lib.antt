-- The definitions that the contracts of `sched_time` cite.
pub mod Capped
pub mod Decision
