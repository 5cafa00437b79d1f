-- What retries that draw on a limit ask it and tell it.
pub mod Costs
pub mod Limits
