-- What is written of a plan is read as the same plan.
pub mod Writings
