-- What a retry draws on, what a draw leaves, and what passes of budgets and quotas do.
pub mod Counted
pub mod Grants
pub mod Freely
pub mod Budgets
pub mod Quotas
pub mod Splits
pub mod Drawing
pub mod Passes
