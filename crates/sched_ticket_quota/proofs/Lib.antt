-- The laws of quotas, the steps that keep their rule, and the lemmas that these cite.
pub mod Numbers
pub mod Counts
pub mod Whole
pub mod Moves
pub mod Wins
pub mod HandBacks
pub mod Parts
pub mod Views
pub mod Clocks
pub mod Carried
pub mod Histories
pub mod WorkedHistories
pub mod WorkedCarries
pub mod Returns
pub mod Known
