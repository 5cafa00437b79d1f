-- Which plan a JSON value spells, and which fault it has first.
pub mod Reading
pub mod Words
pub mod Forms
pub mod Nodes
pub mod PlanOf
pub mod Node
pub mod Texts
