-- What the laws of delays say.
pub mod Delays
