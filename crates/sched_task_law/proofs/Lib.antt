-- The lemmas that the proofs of tasks cite: a task keeps its law over each poll.
pub mod Lists
pub mod Fields
pub mod Journals
pub mod Law
pub mod Events
mod Worked
