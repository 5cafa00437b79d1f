-- The lemmas that the proofs of `sched_pool` cite, and that boards may go to other threads and be shared.
pub mod Sums
pub mod Sends
pub mod Crews
