-- The law of a task, and one poll of it.
pub mod Lists
pub mod Deadline
pub mod Kind
pub mod Past
pub mod Poll
pub mod Law
pub mod Codes
