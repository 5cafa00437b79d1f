-- The laws of delays.
pub mod Delays
