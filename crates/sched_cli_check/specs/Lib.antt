-- What checking a text reports.
pub mod Reporting
pub mod Checking
pub mod JobsFaults
