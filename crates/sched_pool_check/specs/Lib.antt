-- The faults of jobs, their places, and what checking jobs returns.
pub mod JobFaults
pub mod Items
pub mod Checked
