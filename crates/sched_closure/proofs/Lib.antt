-- The lemmas that the proofs of closures cite.
pub mod Ended
pub mod Told
pub mod Unbegun
pub mod Goes
