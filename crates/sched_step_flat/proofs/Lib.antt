-- That a step of words is that of the state which they stand for, and that a record may go to another thread.
pub mod laws
pub mod Unread
pub mod Sends
