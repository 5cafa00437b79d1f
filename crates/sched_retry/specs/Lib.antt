-- What a retry or a repeat hands out.
pub mod Ending
