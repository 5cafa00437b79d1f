-- When a list of events is a trace.
pub mod Trace
