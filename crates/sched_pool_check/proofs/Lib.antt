-- The first fault among jobs, and the ways to it.
pub mod Past
pub mod JobLeads
pub mod JobNexts
