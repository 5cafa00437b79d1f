-- The lemmas that the proofs of `sched_driver_tree` cite, and that a stepper may go to another thread.
pub mod Standings
pub mod Sends
