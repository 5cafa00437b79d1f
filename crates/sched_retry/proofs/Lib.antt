-- The lemmas that the proofs of retries and repeats cite.
pub mod Polls
