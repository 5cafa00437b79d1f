-- What the command line asks for: options, quotas, seeds, and the status where it asks for nothing.
pub mod Seeded
pub mod Options
pub mod Status
pub mod Quotas
pub mod QuotaSpelling
