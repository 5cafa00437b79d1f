-- The lemmas on a worker's share, and on closing its jobs.
mod Closings
mod Shares
