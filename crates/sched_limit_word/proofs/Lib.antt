-- The laws of a limit, and the lemmas that these and the steps of a pass cite.
pub mod Names
pub mod Runs
pub mod Owned
pub mod Moves
pub mod Parts
pub mod Views
pub mod Looks
