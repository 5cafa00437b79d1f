-- The definitions that the contracts of `sched_limit_request` cite: what each call does, on each kind of limit.
pub mod Fault
pub mod Asks
pub mod Tells
pub mod Limits
pub mod Sides
pub mod Windows
pub mod Pairs
pub mod Quiet
pub mod ByHand
pub mod States
pub mod Laws
