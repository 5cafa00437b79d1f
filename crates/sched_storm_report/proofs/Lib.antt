-- The laws of a report and the steps by which the tally counts what it is told.
pub mod Sums
pub mod Counted
pub mod Standing
pub mod Sorted
pub mod Laws
mod Worked
