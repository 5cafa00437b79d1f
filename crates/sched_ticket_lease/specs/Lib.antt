-- The definitions that the contracts of `sched_ticket_lease` cite: leases, holders and their laws.
pub mod Leases
pub mod Laws
pub mod Spans
pub mod Requests
pub mod Holders
pub mod Histories
