-- The laws of leases, and the lemmas that these cite.
pub mod Answered
pub mod Counts
pub mod Ranges
pub mod Weights
pub mod Granted
pub mod TakenOnce
pub mod Shared
pub mod InTime
pub mod ToldOnce
pub mod Ends
pub mod Kept
pub mod Remembered
