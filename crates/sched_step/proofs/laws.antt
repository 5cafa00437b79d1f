-- One step from the state after a history gives the state and the answer after the next event.
pub mod Leaves
pub mod Ones
pub mod Twos
pub mod Law
pub mod First
pub mod Starts
pub mod Fits
