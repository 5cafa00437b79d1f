-- The definitions that the contracts of `sched_calendar` cite.
pub mod Keys
pub mod Ahead
pub mod Calendar
