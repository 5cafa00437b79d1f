-- One event more of a trace, and that there is one trace.
pub mod Traces
pub mod Sums
