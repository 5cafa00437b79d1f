-- What contracts see of a retry with a fallback, and what it hands out.
pub mod Falling
pub mod Ending
pub mod Stops
