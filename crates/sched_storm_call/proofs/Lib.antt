-- Lemmas that the proofs of `sched_storm_call` cite.
pub mod Refused
