-- Threads may share values, plans and shared plans.
pub mod Rows
pub mod Plans
pub mod SharedPlans
