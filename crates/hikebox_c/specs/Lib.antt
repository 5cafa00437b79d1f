-- What the contracts of the library's exports cite.
pub mod Calls
pub mod Texts
pub mod Policies
pub mod Courses
pub mod Passes
pub mod Retries
pub mod Runs
pub mod Leases
pub mod Leased
pub mod Limits
pub mod LimitTerms
pub mod Paces
pub mod Kept
pub mod States
pub mod PacesKept
