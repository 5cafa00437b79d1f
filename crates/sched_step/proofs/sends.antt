-- States may go to another thread.
pub mod Kept
pub mod Trees
pub mod States
