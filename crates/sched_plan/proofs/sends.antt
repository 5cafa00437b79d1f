-- Values, plans and events may go to another thread.
pub mod Rows
pub mod Values
pub mod Plans
pub mod Events
