-- The bound of a schedule.
pub mod Bound
