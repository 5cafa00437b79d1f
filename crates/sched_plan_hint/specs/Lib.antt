-- The text of a place, and of a fault of JSON or of a plan.
pub mod PlaceText
pub mod JsonFaults
pub mod Faults
