-- What the contracts of `sched_handle` cite: what a handle owns, and what each call on it does and tells.
pub mod Handle
pub mod Status
pub mod Replies
pub mod Held
pub mod Fills
pub mod Policies
pub mod Drawing
pub mod Passes
pub mod Retries
pub mod Again
pub mod Leases
pub mod Limits
pub mod Looks
pub mod States
pub mod Paces
