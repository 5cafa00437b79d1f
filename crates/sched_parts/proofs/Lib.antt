-- What proofs by hand cite, of functions between a box and its pointer.
pub mod Walks
