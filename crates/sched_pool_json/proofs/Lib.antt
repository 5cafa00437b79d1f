-- One more job or run that is read, with a worked example.
pub mod Steps
pub mod WorkedJobs
