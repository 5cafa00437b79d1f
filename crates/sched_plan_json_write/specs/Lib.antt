-- The JSON value and the text of a plan.
pub mod Forms
pub mod Written
