-- What is written of a text that was checked.
pub mod Puts
pub mod Tells
pub mod Finds
