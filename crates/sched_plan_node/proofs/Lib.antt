-- Lemmas on the answers of a node's builder.
pub mod Answered
