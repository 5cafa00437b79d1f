-- What the proofs of the laws cite.
pub mod Runs
