-- The proof of the bound.
pub mod Crossings
pub mod BoundLaw
