-- What the program prints, read from a text in the place of a stream.
pub mod Again
pub mod Answered
