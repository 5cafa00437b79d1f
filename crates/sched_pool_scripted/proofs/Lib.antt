-- The lemmas on jobs that were run on a budget or on a quota, with a worked batch.
pub mod Totals
pub mod Passes
pub mod Polls
pub mod Noted
pub mod Spread
pub mod Taken
pub mod WorkedBatch
