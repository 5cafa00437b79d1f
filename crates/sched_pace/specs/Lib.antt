-- The definitions that the contracts of `sched_pace` cite: the machine, what its moves gain, and its laws.
pub mod Pace
pub mod Tokens
pub mod Starts
pub mod Laws
pub mod Step
pub mod Held
pub mod Kept
