-- What jobs that were run leave, on a budget or on a quota.
pub mod Ends
pub mod Batch
pub mod Windows
pub mod Driven
pub mod QuotaBatch
