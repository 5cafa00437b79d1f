-- The lemmas on what is printed of a plan, and on why printing stops.
pub mod PrintFaults
pub mod Printed
pub mod PrintSteps
pub mod Written
