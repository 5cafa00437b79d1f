-- The place of a fault, the faults below a value, and what checking a plan returns.
pub mod Places
pub mod PlanFaults
pub mod Below
pub mod Checked
