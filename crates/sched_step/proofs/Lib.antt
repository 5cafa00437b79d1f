-- The law of a step, worked examples, and the lemmas that the proofs of `sched_step` cite.
pub mod History
pub mod WorkedStates
pub mod Fixed
pub mod Moments
pub mod Marked
pub mod laws
pub mod sends
