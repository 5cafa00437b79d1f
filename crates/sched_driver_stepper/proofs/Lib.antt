-- The lemmas that the proofs of `sched_driver_stepper` cite.
pub mod Standings
pub mod Plays
