-- The definitions that the contracts of `sched_ticket` cite: a budget's rule, its steps and its laws.
pub mod Lists
pub mod Parts
pub mod View
pub mod Rule
pub mod Whole
pub mod Steps
pub mod Held
pub mod Calls
pub mod Laws
pub mod Fault
