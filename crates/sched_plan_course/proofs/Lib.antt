-- A plan that is stepped along a course keeps the state of its history.
pub mod Along
