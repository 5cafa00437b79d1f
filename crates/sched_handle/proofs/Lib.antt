-- Lemmas that the proofs of `sched_handle` cite.
mod AsBox
mod Deadlines
pub mod Quotas
pub mod Splits
pub mod Undrawn
pub mod PaceMade
