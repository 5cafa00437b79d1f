-- The lemmas that the proofs of retries with a fallback cite.
pub mod Polls
