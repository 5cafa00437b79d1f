-- What a worker does with its share.
pub mod Working
