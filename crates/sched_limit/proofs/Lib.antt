-- The laws of each limit and the cases of their moves, which the laws' proofs cite.
pub mod Cases
pub mod Buckets
pub mod Flights
pub mod FlightsHeld
pub mod Adaptives
pub mod Breakers
pub mod ResultBits
pub mod LastResults
pub mod ByHand
pub mod Throttles
pub mod QuietWords
mod Rows
mod RowsInside
