-- The lemmas on seeded words and on the spelling of a quota.
pub mod Fours
pub mod Spelt
