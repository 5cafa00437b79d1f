-- The nodes by their names, and the numbers and plans that each takes.
pub mod Numbers
pub mod Names
pub mod Given
