-- The lemmas on a share's portion of the jobs.
pub mod Portions
