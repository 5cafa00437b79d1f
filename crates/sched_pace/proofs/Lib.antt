-- The laws of a pace, which the proofs of the module `laws` cite, and what a pass may give back.
pub mod Numbers
pub mod Cases
pub mod Takes
pub mod Starts
pub mod Paces
pub mod Kept
pub mod Given
mod Rows
