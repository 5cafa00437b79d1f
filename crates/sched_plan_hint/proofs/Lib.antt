-- The text of a place grows by steps, and a fault's message follows from what was checked.
pub mod Steps
pub mod Finds
