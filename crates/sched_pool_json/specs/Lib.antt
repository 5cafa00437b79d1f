-- What jobs are, and which jobs a JSON value spells.
pub mod Job
pub mod Each
pub mod JobsOf
