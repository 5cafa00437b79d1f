-- The lemmas that the proofs of jobs cite.
pub mod Kept
pub mod Sends
