-- A driver may go to another thread.
pub mod Sends
