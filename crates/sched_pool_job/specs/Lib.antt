-- What is true of a job.
pub mod Jobs
