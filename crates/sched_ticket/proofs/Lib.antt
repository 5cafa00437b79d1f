-- The laws of budgets, the steps that keep their rule, and the lemmas that these cite.
pub mod Sums
pub mod Ways
pub mod Greatest
pub mod Totals
pub mod Whole
pub mod Moves
pub mod Views
