-- The lines of a pool, with worked examples, and the faults of jobs.
pub mod WorkedLines
pub mod PoolLines
pub mod JobsFaults
