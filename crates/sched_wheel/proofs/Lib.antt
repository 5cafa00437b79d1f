-- The lemmas on the polls of a loop.
pub mod Polls
