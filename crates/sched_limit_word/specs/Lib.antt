-- The definitions that the contracts of `sched_limit_word` cite: the run of a machine, its moves and its laws.
pub mod View
pub mod Rule
pub mod Tokens
pub mod Steps
pub mod Held
pub mod Calls
pub mod Looks
pub mod Laws
