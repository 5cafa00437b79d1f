-- The definitions that the contracts of `sched_ticket_quota` cite: a quota's rule, its steps and its laws.
pub mod Windows
pub mod View
pub mod Rule
pub mod Whole
pub mod Steps
pub mod Held
pub mod Calls
pub mod Laws
pub mod Clocks
pub mod Carried
pub mod Histories
