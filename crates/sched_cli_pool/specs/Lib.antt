-- What the program prints of a pool on a budget or a quota, and why it stops.
pub mod PoolText
pub mod PoolStatus
pub mod JobsPrinting
pub mod PoolPrinting
pub mod QuotaPrinting
