-- The polls of a loop over many tasks.
pub mod Polled
