-- The program's stops, and what it answers to each command.
pub mod Stops
pub mod Answering
