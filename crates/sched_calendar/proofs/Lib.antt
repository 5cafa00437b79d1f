-- The proofs of `sched_calendar`.
pub mod Rows
pub mod Least
