-- What is read of a JSON value, with a worked example.
pub mod Readings
pub mod WorkedReading
