-- What the contract of `sched_plan_reads` cites.
pub mod Reads
