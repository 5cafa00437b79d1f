-- A step of a record's words gives the words of the next state, and what is read of the answer.
pub mod Codes
pub mod Plain
pub mod Ones
pub mod Twos
pub mod Law
