-- The definitions that the contracts of `sched_limit_handle` cite: what a handle holds, and what calls do to it.
pub mod Status
pub mod AnyLimit
pub mod Held
pub mod Looks
pub mod Stands
