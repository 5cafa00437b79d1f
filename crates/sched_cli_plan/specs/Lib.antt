-- What the program reads and writes of a plan, and why it stops.
pub mod Counted
pub mod Again
pub mod Failures
pub mod PrintStatus
pub mod Refusal
pub mod Whole
pub mod PlanText
pub mod Printing
