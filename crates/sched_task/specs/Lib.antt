-- What a task does at a poll, and what clocks and random words give it.
pub mod Course
pub mod System
pub mod Words
