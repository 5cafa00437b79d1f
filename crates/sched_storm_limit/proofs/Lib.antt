-- Rows computed with the definitions; each proof stands beside its function.
mod Worked
