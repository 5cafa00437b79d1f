-- Lemmas that the proofs of `hikebox_c` cite.
pub mod Lines
pub mod Put
