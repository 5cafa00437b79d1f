-- What a run of an effect leaves, an effect that follows a script, and a fallback.
pub mod Runs
pub mod Played
pub mod Called
