-- What the proofs cite.
pub mod Given
pub mod Undisturbed
pub mod QuietLooks
