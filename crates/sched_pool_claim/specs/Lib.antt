-- A share's portion of the jobs, and the laws of claims.
pub mod Portion
pub mod Laws
