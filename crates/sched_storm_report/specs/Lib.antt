-- The definitions that the contracts of `sched_storm_report` cite: what was told, and the report of it.
pub mod Peer
pub mod Counts
pub mod Moments
pub mod Report
pub mod Laws
pub mod Told
